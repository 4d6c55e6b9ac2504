-- The entries of a ROM's words: in each turn there is one for each word, and there are no others. Assumes nothing.
use mathlib.Core.Path.{◌≡◌, refl, sym, ◌∙◌, ap}
use mathlib.Core.Bool.{Bool, true, false, cond, ◌&&◌}
use Prim.Native.Nat.{ℕ, ◌+◌, ◌*◌, ◌/◌, ◌%◌, ◌^◌, ◌<◌}
use native.Mathlib.Nat.{lt_of_lt_of_le}
use native.Mathlib.Omega.{arith}
use mathlib.Core.List.{List}
use lib.Bits.{bit_and}
use lib.Dec.{ltb, eqb}
use lib.ListN.{get_or}
use borrow.Author.Tests.{ltb-true, eqb-true, lt-ltb, eq-eqb}
use Rattle.bits.specs.Bits.{gather}
use Rattle.bits.proofs.Gathered.{gather_lt}
use Rattle.index_order.specs.Design.Order.{Ordered, at}
use Rattle.index_order.proofs.Index.{index_lt, index_back, index_forced, index_whole}
use Rattle.words.specs.Words.{entry_word}
use Rattle.entry_words.specs.Design.Reading.{gathered, no_map, no_extent, part_by, rom_by, address_by, extent_by, word_by, value_by}
use Rattle.entry_words.specs.declared.Map.{Map}
use Rattle.entry_words.specs.declared.Extent.{Extent}
use Rattle.entry_words.specs.declared.Reading.{Reading}
use Rattle.rom_turns.specs.Design.Rom.{rom_index, turn_start}
use Rattle.rom_entries.specs.Design.Suits.{Suits, rom_of}
use Rattle.word_read.specs.Design.Ordered.{rom_value}
use Rattle.rom_turns.specs.declared.Rom.{Rom}
use Rattle.word_read.proofs.Split.{address-bits, picked-bits, turn-address, turn-picked, turn_lt, turn_of, turn-count}

-- an entry that is for a word has the forced bits and an address that its ROM has
counted-case : (f : Bool) (l : Bool) (x y : ℕ) → cond (f && l) x y < y → (f ≡ true) × (l ≡ true) × (cond (f && l) x y ≡ x)
counted-case true true x y h = (refl, refl, refl)
counted-case true false x y h = absurd (omega arith)
counted-case false l x y h = absurd (omega arith)

pub counted : (r : Reading) (i : ℕ) → word_by r i < r.words
    → (bit_and i r.forced ≡ r.forced_high) × (address_by r i < (extent_by r i).words) × (word_by r i ≡ (extent_by r i).start + address_by r i)
unfolding word_by
counted r i h =
    let (f, l, e) = counted-case (eqb (bit_and i r.forced) r.forced_high) (ltb (address_by r i) (extent_by r i).words) ((extent_by r i).start + address_by r i) r.words h in
    (eqb-true (bit_and i r.forced) r.forced_high f, ltb-true (address_by r i) (extent_by r i).words l, e)

map-says : (m : Map) (i : ℕ) → gathered m i ≡ gather m.lines (at m) i
unfolding gathered
map-says m i = refl

-- the entries of the k-th ROM are in order
pub record Placed (r : Reading) (k b m pins : ℕ) (order : Map) : Type 0 where
  pub ordered : Ordered (get_or r.address k no_map) (get_or r.address 4 no_map) order
  pub suited : Suits (get_or r.address k no_map) (get_or r.address 4 no_map) order (get_or r.extents k no_extent) r.roms k b m r.forced r.forced_high pins

module _ {r : Reading} {k b m pins : ℕ} {order : Map} (h : Placed r k b m pins order) where
  abbrev A : ℕ
  A = (get_or r.address k no_map).lines

  abbrev B : ℕ
  B = (get_or r.address 4 no_map).lines

  abbrev extent : Extent
  extent = get_or r.extents k no_extent

  abbrev pub rom : Rom
  rom = rom_of (get_or r.address k no_map) (get_or r.address 4 no_map) order b extent pins r.forced_high r.word_bytes

  abbrev pub index : ℕ → ℕ
  index e = rom_index rom order.positions e

  pub entry_lt : (e : ℕ) → index e < 2 ^ pins
  entry_lt e = index_lt h.suited.fits e

  -- the entry of a word in a turn
  module _ (c a : ℕ) (lc : c < rom.turns) (la : a < extent.words) where
    short : a < 2 ^ A
    short = lt_of_lt_of_le la h.suited.words

    pub order_lt : turn_start rom c + a < 2 ^ order.lines
    order_lt = turn_lt A B order.lines c b a (omega (arith, h.ordered.lines)) lc h.suited.only.below short

    back : gather order.lines (at order) (index (turn_start rom c + a)) ≡ turn_start rom c + a
    back = index_back h.suited.fits (turn_start rom c + a) order_lt

    picked-there : part_by r.address 4 (index (turn_start rom c + a)) ≡ b
    picked-there =
        map-says (get_or r.address 4 no_map) (index (turn_start rom c + a))
        ∙ picked-bits h.ordered (index (turn_start rom c + a))
        ∙ ap (λ (x : ℕ). x / 2 ^ A % 2 ^ B) back
        ∙ turn-picked A B c b a short h.suited.only.below

    pub rom-there : rom_by r (index (turn_start rom c + a)) ≡ k
    rom-there = ap (λ (x : ℕ). get_or r.roms x 0) picked-there ∙ h.suited.only.picked

    address-there : address_by r (index (turn_start rom c + a)) ≡ a
    address-there =
        ap (λ (x : ℕ). part_by r.address x (index (turn_start rom c + a))) rom-there
        ∙ map-says (get_or r.address k no_map) (index (turn_start rom c + a))
        ∙ address-bits h.ordered (index (turn_start rom c + a))
        ∙ ap (λ (x : ℕ). x % 2 ^ A) back
        ∙ turn-address A B c b a short

    pub word-there : word_by r (index (turn_start rom c + a)) ≡ m + a
    unfolding word_by
    word-there =
        let i = index (turn_start rom c + a) in
        let there : extent_by r i ≡ extent = ap (λ (x : ℕ). get_or r.extents x no_extent) rom-there in
        let free = eq-eqb (bit_and i r.forced) r.forced_high (index_forced h.suited.fits (turn_start rom c + a)) in
        rw (free, there, address-there, lt-ltb a extent.words la, h.suited.start)

    pub value_there : (stored : List ℕ) → value_by r stored (index (turn_start rom c + a)) ≡ rom_value rom order.positions (get_or r.data_lines k no_map) stored (turn_start rom c + a)
    unfolding value_by
    value_there stored = ap (λ (x : ℕ). part_by r.data_lines x (entry_word r.word_bytes stored (index (turn_start rom c + a)))) rom-there

  -- an entry of the ROM is one of a turn
  module _ (i : ℕ) (li : i < 2 ^ pins) (free : bit_and i r.forced ≡ r.forced_high) (there : rom_by r i ≡ k) where
    abbrev e : ℕ
    e = gather order.lines (at order) i

    abbrev pub turn : ℕ
    turn = e / 2 ^ A / 2 ^ B

    pub turn_in : turn < rom.turns
    turn_in = turn-count A B order.lines e (omega (arith, h.ordered.lines)) (gather_lt order.lines (at order) i)

    address_is : address_by r i ≡ e % 2 ^ A
    address_is = ap (λ (x : ℕ). part_by r.address x i) there ∙ map-says (get_or r.address k no_map) i ∙ address-bits h.ordered i

    bits_is : e / 2 ^ A % 2 ^ B ≡ b
    bits_is =
        let bits = part_by r.address 4 i in
        let said : bits ≡ e / 2 ^ A % 2 ^ B = map-says (get_or r.address 4 no_map) i ∙ picked-bits h.ordered i in
        let few : bits < 2 ^ B = rw (map-says (get_or r.address 4 no_map) i) (gather_lt B (at (get_or r.address 4 no_map)) i) in
        sym said ∙ h.suited.only.one bits few there

    pub turn_is : i ≡ index (turn_start rom turn + address_by r i)
    turn_is =
        let whole : turn_start rom turn + address_by r i ≡ e =
        ap (λ (x : ℕ). turn * 2 ^ (B + A) + b * 2 ^ A + x) address_is
        ∙ ap (λ (x : ℕ). turn * 2 ^ (B + A) + x * 2 ^ A + e % 2 ^ A) (sym bits_is)
        ∙ turn_of A B e in
        sym (ap index whole ∙ index_whole h.suited.fits i li free)
