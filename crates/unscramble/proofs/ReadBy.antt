-- What the code reads the entries by says of each what the definitions say: the word that it is for, and its value. Assumes nothing.
use Rattle.std.specs.Prelude.{Option, Some, None}
use mathlib.Core.Path.{◌≡◌, refl, sym, ◌∙◌, ap}
use mathlib.Core.Bool.{Bool, true, false, cond, ◌&&◌}
use mathlib.Core.List.{List}
use Prim.Native.Nat.{ℕ, suc, ◌+◌, ◌-◌, ◌*◌, ◌^◌, ◌≤◌, ◌<◌}
use native.Mathlib.Nat.{lt_of_lt_of_le}
use native.Mathlib.Omega.{arith}
use lib.Dec.{ltb, eqb}
use lib.ListN.{get_or}
use lib.Pow.{pow_mono, pow_pos}
use borrow.Author.Tests.{ltb-true, lt-ltb, le-ltb}
use Rattle.lists.specs.Tab.{tab}
use Rattle.lists.proofs.Tab.{get_or-tab}
use Rattle.bits.specs.Bits.{gather}
use Rattle.bits.proofs.Gathered.{gather_lt, gather_cong}
use Rattle.words.specs.Words.{word}
use Rattle.words.specs.declared.ByteOrder.{ByteOrder}
use Rattle.words.proofs.Turned.{turned_word, turned_none, turned_empty}
use Rattle.dump_lines.proofs.Says.{same_lines, ordered_says}
use Rattle.dump_lines.specs.Design.Lines.{ordered_map}
use Rattle.slot.specs.declared.description.ChipSetType.{ChipSetType}
use Rattle.slot.specs.declared.description.ChipSetType.TheVariants.{Single, Banked, Multi}
use Rattle.picks.specs.Picks.{picks_of, picked_by, chips_fit}
use Rattle.picks.proofs.Picking.{picks_three}
use Rattle.entry_words.specs.Design.Reading.{no_map, gathered, part_by, rom_by, no_extent, word_by, value_by, ReadingIn}
use Rattle.entry_words.specs.declared.Map.{Map}
use Rattle.entry_words.specs.declared.Extent.{Extent}
use Rattle.entry_words.specs.declared.Reading.{Reading}
use Rattle.stored_slot.specs.Stored.{rom_at, word_bytes, addr_base, stored_data_base, map_lines, data_lines, stored_data_position, free}
use Rattle.unscramble.specs.Words.{rom_picked, address_at, value_at}
use Rattle.stored_slot.specs.Words.{rom_words, words_before, all_words, stored_pick_position}
use Rattle.unscramble.proofs.WordAt.{word_of, word_at, said_of, said_at}
use Rattle.unscramble.specs.Design.Reading.{Readable, read_map, pick_map, no_lines, address_map, data_map, rom_place, extent_of, reading_of}
use Rattle.stored_slot.specs.declared.stored.StoredSlot.{StoredSlot}
use Rattle.stored_slot.proofs.Listed.{listed-most}
use Rattle.unscramble.proofs.Flat.{before_le, before_next}
use Rattle.unscramble.proofs.Serves.{picked-there}
use Rattle.forced_bits.proofs.Masks.{masked_free}

-- a table of positions says what the positions do
gather-tab : (n m : ℕ) (p : ℕ → ℕ) (i : ℕ) → n ≤ m → gather n (λ k. get_or (tab m p) k 0) i ≡ gather n p i
gather-tab n m p i h = gather_cong n _ _ i (λ k l. get_or-tab p m k 0 (omega arith))

map-says : (gpios : List ℕ) (base i : ℕ) → gathered (read_map gpios base) i ≡ gather (map_lines 32 gpios) (λ k. get_or gpios k 0 - base) i
unfolding gathered
map-says gpios base i = gather-tab (map_lines 32 gpios) 32 (λ k. get_or gpios k 0 - base) i (listed-most 32 gpios)

nest : {A : Type 0} (f t : Bool) (x y : A) → cond (f && t) x y ≡ cond f (cond t x y) y
nest true t x y = refl
nest false t x y = refl

module _ (order : ByteOrder) (s : StoredSlot) (set : ChipSetType) where
  abbrev r : Reading
  r = reading_of order s set

  -- the lines that pick
  pick-says : (i : ℕ) → gathered (pick_map s set) i ≡ gather (picks_of set s.num_roms) (stored_pick_position s set) i
  unfolding gathered
  pick-says i =
      gather-tab (picks_of set s.num_roms) 32 (λ k. cond (ltb k 3) (stored_pick_position s set k) 0) i (omega (arith, picks_three set s.num_roms))
      ∙ gather_cong (picks_of set s.num_roms) _ _ i (λ k l. rw (lt-ltb k 3 (omega (arith, picks_three set s.num_roms))))

  part_pick : (i : ℕ) → part_by r.address 4 i ≡ gather (picks_of set s.num_roms) (stored_pick_position s set) i
  unfolding reading_of
  part_pick i = ap (λ (m : Map). gathered m i) (get_or-tab (address_map s set) 5 4 no_map (omega arith)) ∙ pick-says i

  picks-eight : (i : ℕ) → gather (picks_of set s.num_roms) (stored_pick_position s set) i < 8
  picks-eight i =
      lt_of_lt_of_le (gather_lt (picks_of set s.num_roms) (stored_pick_position s set) i) (pow_mono {j = 3} (picks_three set s.num_roms))

  place_is : (i : ℕ) → rom_by r i ≡ rom_place (rom_picked s set i)
  unfolding reading_of rom_picked
  place_is i =
      ap (λ (b : ℕ). get_or r.roms b 0) (part_pick i)
      ∙ get_or-tab (λ b. rom_place (picked_by set s.num_roms b)) 8 (gather (picks_of set s.num_roms) (stored_pick_position s set) i) 0 (picks-eight i)

  -- a ROM's lines
  part_address : (rom i : ℕ) → rom < 4 → rom < s.num_roms → part_by r.address rom i ≡ address_at s rom i
  unfolding reading_of address_at
  part_address rom i h l =
      let e : address_map s set rom ≡ read_map (rom_at s rom).addr (addr_base s) = rw (lt-ltb rom 4 h, lt-ltb rom s.num_roms l) in
      ap (λ (m : Map). gathered m i) (get_or-tab (address_map s set) 5 rom no_map (omega arith) ∙ e) ∙ map-says (rom_at s rom).addr (addr_base s) i

  part_data : (rom v : ℕ) → rom < 5 → rom < s.num_roms → word_bytes s ≤ 2 → data_lines (rom_at s rom) ≡ 8 * word_bytes s
      → part_by r.data_lines rom v ≡ turned_word order (word_bytes s) (gather (data_lines (rom_at s rom)) (stored_data_position s rom) v)
  unfolding reading_of
  part_data rom v h l small all =
      let map = read_map (rom_at s rom).data_lines (stored_data_base s) in
      let e : data_map order s rom ≡ ordered_map order map = rw (lt-ltb rom s.num_roms l) in
      ap (λ (m : Map). gathered m v) (get_or-tab (data_map order s) 5 rom no_map h ∙ e)
      ∙ ordered_says map v order (word_bytes s) small all
      ∙ ap (turned_word order (word_bytes s)) (map-says (rom_at s rom).data_lines (stored_data_base s) v)

  extent-at : (k : ℕ) → k < 5 → get_or r.extents k no_extent ≡ extent_of s k
  unfolding reading_of
  extent-at k h = get_or-tab (extent_of s) 5 k no_extent h

  -- the word that an entry is for: by an extent, and an address there
  abbrev word_in : ℕ → Extent → ℕ → ℕ
  word_in i x a = cond (free s i && ltb a x.words) (x.start + a) (all_words s)

  abbrev word-there : ℕ → ℕ → ℕ
  word-there i k = word_in i (get_or r.extents k no_extent) (part_by r.address k i)

  by_place : (i : ℕ) → word_by r i ≡ word-there i (rom_by r i)
  unfolding word_by reading_of
  by_place i = rw (masked_free s i)

  nowhere : (f : Bool) (t : Bool) (x y : ℕ) → t ≡ false → cond (f && t) x y ≡ cond f y y
  nowhere true t x y e = rw e
  nowhere false t x y e = refl

  module _ (fit : chips_fit set s.num_roms ≡ true) (few : s.num_roms ≤ 4) where
    extent-none : extent_of s 4 ≡ no_extent
    extent-none = rw (le-ltb 4 s.num_roms few)

    extent-rom : (rom : ℕ) → rom < s.num_roms → ◌≡◌ {A = Extent} (extent_of s rom) (record { start = words_before s rom; words = rom_words s rom })
    extent-rom rom h = rw (lt-ltb rom s.num_roms h)

    word-case : (i : ℕ) (p : Option ℕ) → rom_picked s set i ≡ p → word_by r i ≡ cond (free s i) (word_of s p i) (all_words s)
    word-case i None e =
        by_place i
        ∙ ap (word-there i) (place_is i ∙ ap rom_place e)
        ∙ ap (λ (x : Extent). word_in i x (part_by r.address 4 i)) (extent-at 4 (omega arith) ∙ extent-none)
        ∙ nowhere (free s i) (ltb (part_by r.address 4 i) 0) (0 + part_by r.address 4 i) (all_words s) (le-ltb (part_by r.address 4 i) 0 (omega arith))
    word-case i (Some rom) e =
        let there : rom < s.num_roms = picked-there s set fit rom i e in
        by_place i
        ∙ ap (word-there i) (place_is i ∙ ap rom_place e)
        ∙ ap (λ (x : Extent). word_in i x (part_by r.address rom i)) (extent-at rom (omega arith) ∙ extent-rom rom there)
        ∙ ap (λ (a : ℕ). word_in i (record { start = words_before s rom; words = rom_words s rom }) a) (part_address rom i (omega arith) there)
        ∙ nest (free s i) (ltb (address_at s rom i) (rom_words s rom)) (words_before s rom + address_at s rom i) (all_words s)

    pub word_same : (i : ℕ) → word_by r i ≡ word_at s set i
    unfolding word_at
    word_same i = word-case i (rom_picked s set i) refl

    -- what it says
    module _ (small : word_bytes s ≤ 2) (whole : (rom : ℕ) → rom < s.num_roms → data_lines (rom_at s rom) ≡ 8 * word_bytes s) (stored : List ℕ) where
      abbrev said_there : ℕ → ℕ → ℕ
      said_there i k = part_by r.data_lines k (word (word_bytes s) stored i)

      by_rom : (i : ℕ) → value_by r stored i ≡ said_there i (rom_by r i)
      unfolding value_by reading_of
      by_rom i = refl

      said_none : (v : ℕ) → part_by r.data_lines 4 v ≡ 0
      unfolding reading_of
      said_none v =
          let e : data_map order s 4 ≡ ordered_map order no_lines = rw (le-ltb 4 s.num_roms few) in
          ap (λ (m : Map). gathered m v) (get_or-tab (data_map order s) 5 4 no_map (omega arith) ∙ e)
          ∙ ordered_says no_lines v order 0 (omega arith) refl ∙ turned_empty order (gathered no_lines v)

      -- what it says is a word
      said_lt : (i : ℕ) (p : Option ℕ) → said_of s stored p i < 2 ^ (8 * word_bytes s)
      unfolding value_at
      said_lt i None = pow_pos (8 * word_bytes s)
      said_lt i (Some rom) = gather_lt (8 * word_bytes s) (stored_data_position s rom) (word (word_bytes s) stored i)

      pub said_fits : (i : ℕ) → said_at s set stored i < 2 ^ (8 * word_bytes s)
      unfolding said_at
      said_fits i = said_lt i (rom_picked s set i)

      value_is : (rom i : ℕ) → gather (8 * word_bytes s) (stored_data_position s rom) (word (word_bytes s) stored i) ≡ value_at s stored rom i
      unfolding value_at
      value_is rom i = refl

      said_case : (i : ℕ) (p : Option ℕ) → rom_picked s set i ≡ p → value_by r stored i ≡ turned_word order (word_bytes s) (said_of s stored p i)
      said_case i None e = by_rom i ∙ ap (said_there i) (place_is i ∙ ap rom_place e) ∙ said_none (word (word_bytes s) stored i) ∙ sym (turned_none order (word_bytes s) small)
      said_case i (Some rom) e =
          let there : rom < s.num_roms = picked-there s set fit rom i e in
          by_rom i
          ∙ ap (said_there i) (place_is i ∙ ap rom_place e)
          ∙ part_data rom (word (word_bytes s) stored i) (omega arith) there small (whole rom there)
          ∙ ap (λ (n : ℕ). turned_word order (word_bytes s) (gather n (stored_data_position s rom) (word (word_bytes s) stored i))) (whole rom there)
          ∙ ap (turned_word order (word_bytes s)) (value_is rom i)

      pub said_same : (i : ℕ) → value_by r stored i ≡ turned_word order (word_bytes s) (said_at s set stored i)
      unfolding said_at
      said_same i = said_case i (rom_picked s set i) refl

  -- it is in bounds
  module _ (few : s.num_roms ≤ 4) (whole : (rom : ℕ) → rom < s.num_roms → data_lines (rom_at s rom) ≡ 8 * word_bytes s) (can : Readable s set) where
    address-few : (k : ℕ) → k < 5 → (get_or r.address k no_map).lines ≤ 32
    unfolding reading_of
    address-few k h = rw (get_or-tab (address_map s set) 5 k no_map h) (lines-few (ltb k 4) (ltb k s.num_roms))
      where
        lines-few : (t u : Bool) → (cond t (cond u (read_map (rom_at s k).addr (addr_base s)) no_lines) (pick_map s set)).lines ≤ 32
        lines-few true true = listed-most 32 (rom_at s k).addr
        lines-few true false = omega arith
        lines-few false u = omega (arith, picks_three set s.num_roms)

    data-case : (k : ℕ) (t : Bool) → ltb k s.num_roms ≡ t → (cond t (read_map (rom_at s k).data_lines (stored_data_base s)) no_lines).lines ≤ 8 * word_bytes s
    data-case k true e = omega (arith, whole k (ltb-true k s.num_roms e))
    data-case k false e = omega arith

    data-few : (k : ℕ) → k < 5 → (get_or r.data_lines k no_map).lines ≤ 8 * word_bytes s
    unfolding reading_of
    data-few k h = rw (get_or-tab (data_map order s) 5 k no_map h, same_lines order) (data-case k (ltb k s.num_roms) refl)

    -- a place that is picked is one of the five
    place_if : (t : Bool) (k : ℕ) (next : Option ℕ) → (t ≡ true → k < 5) → rom_place next < 5 → rom_place (cond t (Some k) next) < 5
    place_if true k next h n = h refl
    place_if false k next h n = n

    place_five : (x : ChipSetType) (n bits : ℕ) → n ≤ 4 → rom_place (picked_by x n bits) < 5
    place_five Single n bits h = omega arith
    place_five Banked n bits h = place_if (ltb bits n) bits None (λ e. omega (arith, ltb-true bits n e)) (omega arith)
    place_five Multi n bits h =
        place_if (eqb bits 1) 0 _ (λ e. omega arith)
        (place_if (eqb bits 2) 1 _ (λ e. omega arith) (place_if (eqb bits 4) 2 None (λ e. omega arith) (omega arith)))

    places_five : (bits : ℕ) → bits < 8 → get_or r.roms bits 0 < 5
    unfolding reading_of
    places_five bits h =
        rw (get_or-tab (λ b. rom_place (picked_by set s.num_roms b)) 8 bits 0 h) (place_five set s.num_roms bits few)

    extent-case : (k : ℕ) (t : Bool) → ltb k s.num_roms ≡ t
        → (cond t (record { start = words_before s k; words = rom_words s k }) no_extent).start + (cond t (record { start = words_before s k; words = rom_words s k }) no_extent).words
        ≤ all_words s
    extent-case k true e =
        omega (arith, before_next s k, before_le s (suc k) s.num_roms (ltb-true k s.num_roms e))
    extent-case k false e = omega arith

    extents_in : (k : ℕ) → k < 5 → (get_or r.extents k no_extent).start + (get_or r.extents k no_extent).words ≤ all_words s
    extents_in k h = rw (extent-at k h) (extent-case k (ltb k s.num_roms) refl)

    picks_in : (get_or r.address 4 no_map).lines ≤ 3
    unfolding reading_of
    picks_in = rw (get_or-tab (address_map s set) 5 4 no_map (omega arith)) (picks_three set s.num_roms)

    pub reading_in : ReadingIn r
    unfolding reading_of
    reading_in = record {
      bytes = can.bytes;
      address-lines = address-few;
      picks = picks_in;
      places = places_five;
      data-lines = data-few;
      extents = extents_in;
      few = can.words;
    }
