-- A row in which no line that picks moves: of one chip's words, or of pads. Assumes nothing.
use mathlib.Core.Path.{◌≡◌, refl, sym, ◌∙◌, ap}
use mathlib.Core.List.{List}
use Prim.Native.Nat.{ℕ, ◌+◌, ◌*◌, ◌^◌, ◌≤◌, ◌<◌}
use native.Mathlib.Omega.{arith}
use lib.Bits.{bit_and}
use lib.ListN.{get_or}
use Rattle.words.specs.Words.{chip_word_from}
use Rattle.words.specs.declared.ByteOrder.{ByteOrder}
use Rattle.words.proofs.Chip.{chip_lt}
use Rattle.word_rows.specs.Design.Wrote.{Wrote, said_by}
use Rattle.word_rows.proofs.Rows.{wrote_same}
use Rattle.table_rows.specs.Design.Rows.{ChipRowIn, chip_entry}
use Rattle.table_rows.specs.declared.ChipRow.{ChipRow}
use Rattle.table_fill.specs.Design.Entries.{part_of, no_source, entry_by}
use Rattle.table_fill.specs.Design.Rows.{RowIn, ReadsBy, Pads, line_positions, pick_positions}
use Rattle.table_fill.specs.declared.wiring.Wiring.{Wiring}
use Rattle.table_fill.specs.declared.wiring.Part.{Part}
use Rattle.table_fill.specs.declared.sources.Source.{Source}
use Rattle.table_fill.specs.declared.row.Row.{Row}
use Rattle.table_fill.proofs.Rows.{lowest, highest, unmoved, address_lt, byte-tables, entry_is, source_in}

module _ (w : Wiring) (bytes : ℕ) (sources : List Source) (pad : ℕ) (r : Row) (moves picking lows highs images old : List ℕ)
    (i : RowIn w bytes sources pad r moves picking lows highs images old) (one : get_or picking 7 0 ≡ 0) where
  abbrev source : Source
  source = get_or sources r.part.picks no_source

  first-address : r.part.address ≡ (part_of w r.first).address
  first-address = ap (λ (p : Part). p.address) i.says

  first-picks : r.part.picks ≡ (part_of w r.first).picks
  first-picks = ap (λ (p : Part). p.picks) i.says

  -- what an index of the row says
  module _ (q : ℕ) (l : q < r.count) where
    same-picks : r.part.picks ≡ (part_of w (r.first + q)).picks
    same-picks = first-picks ∙ sym (unmoved w.num_picks (pick_positions w) picking i.tables.picking_are r.first q i.begins (omega (arith, i.short)) one)

    from_lowest : r.part.address ≤ (part_of w (r.first + q)).address
    from_lowest = rw first-address (lowest w.num_lines (line_positions w) moves i.tables.moves_are r.first q i.begins (omega (arith, i.short)))

    to_highest : (part_of w (r.first + q)).address ≤ r.part.address + get_or moves 7 0
    to_highest = rw first-address (highest w.num_lines (line_positions w) moves i.tables.moves_are r.first q i.begins (omega (arith, i.short)))

  -- the words stand in the chip
  module _ (mask : ℕ) (stand : (n : ℕ) → n ≤ r.part.address + get_or moves 7 0 → bit_and n mask < source.count) where
    abbrev chip-row : ChipRow
    chip-row = record { first = r.first; count = r.count; address = r.part.address; start = source.start; mask = mask }

    pub chip_row_in : ChipRowIn bytes chip-row w.num_lines (line_positions w) moves lows highs images old
    chip_row_in = record {
      bytes = rw i.bytes_are i.wiring_in.bytes;
      tables = byte-tables w moves picking lows highs i.tables;
      moves_are = i.tables.moves_are;
      address_is = first-address;
      few = omega (arith, i.few);
      words_in = λ q l. (source_in w bytes sources pad r moves picking lows highs images old i r.first r.part.picks first-picks).within _ (stand _ (to_highest q l));
      room = i.room;
    }

    pub chip_wrote : (order : ByteOrder) (new : List ℕ) → ReadsBy source mask → ((k : ℕ) → get_or images k 0 < 256)
        → Wrote bytes (chip_entry order bytes chip-row w.num_lines (line_positions w) lows highs images) r.first r.count old new
        → Wrote bytes (λ q. entry_by order w sources pad images (r.first + q)) r.first r.count old new
    chip_wrote order new reads small h = wrote_same bytes _ _ r.first r.count old new (λ q l. sym (same q l)) h
      where
        same : (q : ℕ) → q < r.count → chip_entry order bytes chip-row w.num_lines (line_positions w) lows highs images q ≡ entry_by order w sources pad images (r.first + q)
        same q l =
            let n = (part_of w (r.first + q)).address in
            let short : n < 2 ^ 24 = address_lt w (r.first + q) i.wiring_in in
            entry_is w moves picking lows highs i.tables order sources pad images (r.first + q) n r.part.picks bytes (chip_word_from order bytes images (source.start + bit_and n mask * bytes)) _ i.wiring_in i.bytes_are refl (same-picks q l)
            (sym (reads order images bytes pad n (omega arith) (stand n (to_highest q l)))) (chip_lt order bytes images _ small) refl

  -- no word stands there
  pub pads_wrote : (order : ByteOrder) (x : ℕ) (new : List ℕ) → Pads source r.part.address → x ≡ said_by lows highs pad
      → Wrote bytes (λ q. x) r.first r.count old new → Wrote bytes (λ q. entry_by order w sources pad images (r.first + q)) r.first r.count old new
  pads_wrote order x new pads e h = wrote_same bytes _ _ r.first r.count old new (λ q l. sym (same q l)) h
    where
      same : (q : ℕ) → q < r.count → x ≡ entry_by order w sources pad images (r.first + q)
      same q l =
          entry_is w moves picking lows highs i.tables order sources pad images (r.first + q) _ r.part.picks bytes pad x i.wiring_in i.bytes_are refl (same-picks q l)
          (sym (pads order images bytes pad _ (from_lowest q l))) i.pad_short e
