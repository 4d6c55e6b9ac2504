-- The entries of a row: what its indices say, by its first one, and what a word comes to, by the tables of its bytes. Assumes nothing.
use mathlib.Core.Path.{◌≡◌, sym, ◌∙◌, ap}
use mathlib.Core.List.{List, ◌++◌}
use Prim.Native.Nat.{ℕ, ◌+◌, ◌-◌, ◌*◌, ◌/◌, ◌%◌, ◌^◌, ◌≤◌, ◌<◌}
use native.Mathlib.Nat.{mul-one, add-zero, lt_of_lt_of_le, mod-eq_of_lt}
use native.Mathlib.Omega.{arith}
use lib.Bits.{bit_and, bit_or, or_comm, or_add_and, and_le_r, and_mask}
use lib.ListN.{length, get_or, take, drop}
use lib.Pow.{pow_mono}
use Rattle.lists.proofs.Tab.{get_or-tab, tab-length}
use Rattle.bits.specs.Bits.{gather, scatter}
use Rattle.bits.proofs.Gathered.{gather_lt, row, gather_split}
use Rattle.bits.proofs.Scattered.{scatter_split, scatter-zero}
use Rattle.bits.proofs.Back.{gather_or}
use Rattle.words.specs.Words.{bytes_of}
use Rattle.words.specs.declared.ByteOrder.{ByteOrder}
use Rattle.words.proofs.Words.{word-short, words-room}
use Rattle.word_rows.specs.Design.Wrote.{Wrote, said_by}
use Rattle.word_rows.proofs.Rows.{wrote_none, wrote_turn}
use Rattle.running_address.specs.Design.Moves.{Moves, Next}
use Rattle.table_rows.specs.Design.Rows.{ByteTables}
use Rattle.table_fill.specs.Design.Entries.{WiringIn, SourceIn, part_of, scrambled_by, no_source, raw_from, entry_by}
use Rattle.table_fill.specs.Design.Rows.{TablesOf, RowIn, RowWritten, line_positions, pick_positions}
use Rattle.table_fill.specs.declared.wiring.Wiring.{Wiring}
use Rattle.table_fill.specs.declared.wiring.Part.{Part}
use Rattle.table_fill.specs.declared.sources.Source.{Source}
use Rattle.table_fill.specs.declared.row.Row.{Row}

-- the indices of a row

module _ (n : ℕ) (p : ℕ → ℕ) where
  -- low bits come to no more than all of them do
  gather-most : (s q : ℕ) → q < 2 ^ s → gather n p q ≤ gather n p (2 ^ s - 1)
  gather-most s q l =
      let same : bit_and q (2 ^ s - 1) ≡ q = and_mask q s ∙ mod-eq_of_lt l in
      let all : bit_or q (2 ^ s - 1) ≡ 2 ^ s - 1 = omega (arith, or_add_and q (2 ^ s - 1), same) in
      let joined = gather_or n p q (2 ^ s - 1) in
      omega (arith, rw all at joined, or_add_and (gather n p q) (gather n p (2 ^ s - 1)), and_le_r (gather n p q) (gather n p (2 ^ s - 1)))

  -- an index of a row says what the first one does, and what its low bits do
  in_row : (first q : ℕ) → first % 256 ≡ 0 → q < 256 → gather n p (first + q) ≡ gather n p first + gather n p q
  in_row first q e l =
      let shifted : first / 256 * 2 ^ 8 ≡ first = omega arith in
      rw shifted at (gather_split n p (first / 256) 8 q l)

  module _ (moves : List ℕ) (m : Moves n p moves) (first q : ℕ) (e : first % 256 ≡ 0) (l : q < 256) where
    pub lowest : gather n p first ≤ gather n p (first + q)
    lowest = omega (arith, in_row first q e l)

    pub highest : gather n p (first + q) ≤ gather n p first + get_or moves 7 0
    highest = rw (m.up_to 7 (omega arith)) (omega (arith, in_row first q e l, gather-most 8 q l))

    -- where no line moves with the low bits, all indices say the same
    pub unmoved : get_or moves 7 0 ≡ 0 → gather n p (first + q) ≡ gather n p first
    unmoved z = omega (arith, lowest, highest)

-- what an index says has few bits

module _ (w : Wiring) where
  pub address_lt : (i : ℕ) → WiringIn w → (part_of w i).address < 2 ^ 24
  address_lt i h = lt_of_lt_of_le (gather_lt w.num_lines (λ k. get_or w.address k 0) i) (pow_mono {j = 24} h.lines)

  pub picks_lt : (i : ℕ) → (part_of w i).picks < 2 ^ w.num_picks
  picks_lt i = gather_lt w.num_picks (λ k. get_or w.picks k 0) i

  pub picks-eight : (i : ℕ) → WiringIn w → (part_of w i).picks < 8
  picks-eight i h = lt_of_lt_of_le (picks_lt i) (pow_mono {j = 3} h.picks)

-- what a word comes to

scatter-row : (n : ℕ) (p : ℕ → ℕ) (m v : ℕ) → bit_or (scatter n p m (v % 256)) (scatter n p m (v / 256 * 256)) ≡ scatter n p m v
scatter-row n p m v =
    let e = scatter_split n p m (v / 256) 8 (v % 256) (omega arith) in
    or_comm (scatter n p m (v % 256)) (scatter n p m (v / 256 * 256)) ∙ sym (rw (row v) at e)

module _ (w : Wiring) (moves picking lows highs : List ℕ) (t : TablesOf w moves picking lows highs) where
  high-entry : (k : ℕ) → k < 256 → get_or highs k 0 ≡ scrambled_by w (k * 256)
  high-entry k l = rw t.highs_are (get_or-tab (λ q. scrambled_by w (q * 2 ^ 8)) 256 k 0 l)

  pub byte-tables : ByteTables lows highs
  byte-tables = record {
    low = rw t.lows_are (tab-length (λ q. scrambled_by w (q * 2 ^ 0)) 256);
    high = rw t.highs_are (tab-length (λ q. scrambled_by w (q * 2 ^ 8)) 256);
    none = high-entry 0 (omega arith) ∙ scatter-zero w.num_data (λ k. get_or w.data_lines k 0) (8 * w.word_bytes);
  }

  -- a word's bits, by the tables of its bytes
  pub scrambled_is : (v : ℕ) → v < 2 ^ 16 → said_by lows highs v ≡ scrambled_by w v
  scrambled_is v b =
      let low : get_or lows (v % 256) 0 ≡ scrambled_by w (v % 256 * 1) = rw t.lows_are (get_or-tab (λ q. scrambled_by w (q * 2 ^ 0)) 256 (v % 256) 0 (omega arith)) in
      rw (low, high-entry (v / 256) (omega arith), mul-one) (scatter-row w.num_data (λ k. get_or w.data_lines k 0) (8 * w.word_bytes) v)

  -- the entry at an index, by what the index says and by the word that is there
  pub entry_is : (order : ByteOrder) (sources : List Source) (pad : ℕ) (images : List ℕ) (i address picks bytes v x : ℕ) → WiringIn w → bytes ≡ w.word_bytes
      → address ≡ (part_of w i).address → picks ≡ (part_of w i).picks → v ≡ raw_from order images bytes (get_or sources picks no_source) pad address
      → v < 2 ^ (8 * bytes) → x ≡ said_by lows highs v → x ≡ entry_by order w sources pad images i
  unfolding entry_by
  entry_is order sources pad images i address picks bytes v x h b a k r l e =
      let short : v < 2 ^ 16 = word-short bytes v (rw b h.bytes) l in
      e ∙ scrambled_is v short ∙ ap (scrambled_by w) (rw (b, a, k) at r)

-- a row that goes from entry to entry: what its next index says, and the entries that are written
pub record Reached (order : ByteOrder) (w : Wiring) (bytes : ℕ) (sources : List Source) (pad : ℕ) (r : Row) (images old new : List ℕ) (address picks q : ℕ) : Type 0 where
  pub address_is : address ≡ (part_of w (r.first + q)).address
  pub picks_are : picks ≡ (part_of w (r.first + q)).picks
  pub wrote : Wrote bytes (λ j. entry_by order w sources pad images (r.first + j)) r.first q old new

module _ (w : Wiring) (bytes : ℕ) (sources : List Source) (pad : ℕ) (r : Row) (moves picking lows highs images old : List ℕ)
    (i : RowIn w bytes sources pad r moves picking lows highs images old) where
  pub reached-none : (order : ByteOrder) → Reached order w bytes sources pad r images old old r.part.address r.part.picks 0
  reached-none order = record {
    address_is = rw add-zero (ap (λ (p : Part). p.address) i.says);
    picks_are = rw add-zero (ap (λ (p : Part). p.picks) i.says);
    wrote = wrote_none bytes (λ j. entry_by order w sources pad images (r.first + j)) r.first old;
  }

  pub reached-turn : (order : ByteOrder) (now new : List ℕ) (address picks q v x address' picks' : ℕ) → Reached order w bytes sources pad r images old now address picks q
      → v ≡ raw_from order images bytes (get_or sources picks no_source) pad address → v < 2 ^ (8 * bytes) → x ≡ said_by lows highs v
      → new ≡ take ((r.first + q) * bytes) now ++ bytes_of bytes x ++ drop ((r.first + q) * bytes + bytes) now
      → Next moves address (r.first + q) 1 address' → Next picking picks (r.first + q) 1 picks'
      → Reached order w bytes sources pad r images old new address' picks' (q + 1)
  reached-turn order now new address picks q v x address' picks' h raw short said put next next-picks =
      let entry = entry_is w moves picking lows highs i.tables order sources pad images (r.first + q) address picks bytes v x i.wiring_in i.bytes_are h.address_is h.picks_are raw short said in
      let on : r.first + q + 1 ≡ r.first + (q + 1) = omega arith in
      record {
        address_is = rw on at (next w.num_lines (line_positions w) i.tables.moves_are h.address_is);
        picks_are = rw on at (next-picks w.num_picks (pick_positions w) i.tables.picking_are h.picks_are);
        wrote = wrote_turn bytes (λ j. entry_by order w sources pad images (r.first + j)) r.first q x old now new h.wrote entry put;
      }

  -- a chip that is picked has its words in the lent bytes
  pub source_in : (k picks : ℕ) → picks ≡ (part_of w k).picks → SourceIn images bytes (get_or sources picks no_source)
  source_in k picks e = rw (i.bytes_are, e) (i.sources_in (part_of w k).picks (picks_lt w k))

  pub row_room : (q : ℕ) → q < r.count → (r.first + q) * bytes + bytes ≤ length old
  row_room q l = words-room (r.first + q) (r.first + r.count) bytes (length old) (omega arith) i.room

  -- the row's first index picks one of eight, and the highest address of the row has few bits
  pub first_picks_eight : r.part.picks < 8
  first_picks_eight = rw (ap (λ (p : Part). p.picks) i.says) (picks-eight w r.first i.wiring_in)

  pub highest_lt : r.part.address + get_or moves 7 0 < 2 ^ 25
  highest_lt =
      let first : r.part.address ≡ (part_of w r.first).address = ap (λ (p : Part). p.address) i.says in
      omega (arith, first, i.tables.moves_are.up_to 7 (omega arith), address_lt w r.first i.wiring_in, address_lt w (2 ^ 8 - 1) i.wiring_in)

-- a width by another name
module _ (w : Wiring) (bytes : ℕ) (sources : List Source) (pad : ℕ) (r : Row) (images old : List ℕ) (e : bytes ≡ w.word_bytes) where
  pub row_of_width : (moves picking lows highs : List ℕ) → RowIn w w.word_bytes sources pad r moves picking lows highs images old
      → RowIn w bytes sources pad r moves picking lows highs images old
  row_of_width moves picking lows highs i = rw e i

  pub written_of_width : (order : ByteOrder) (new : List ℕ) → RowWritten order w bytes sources pad r images old new → RowWritten order w w.word_bytes sources pad r images old new
  written_of_width order new h = rw e at h
