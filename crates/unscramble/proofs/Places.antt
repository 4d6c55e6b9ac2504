-- Each refusal of read-back is one of document 01's rows, with a place of 48 bits: no place, an X pin, or one of four ROMs and an address of
-- 32 bits. Assumes nothing.
use Rattle.std.specs.Prelude.{Option, Some, None, Ok}
use Rattle.refusal.specs.declared.Refusal.{Refusal}
use mathlib.Core.Path.{◌≡◌, refl}
use mathlib.Core.Bool.{Bool, true, false, not, ◌&&◌, ◌||◌, cond}
use mathlib.Core.List.{List}
use Prim.Native.Nat.{ℕ, ◌*◌, ◌^◌, ◌≤◌, ◌<◌}
use native.Mathlib.Nat.{lt_of_lt_of_le}
use native.Mathlib.Omega.{arith}
use lib.Dec.{leb, ltb, eqb}
use lib.ListN.{length, get_or}
use lib.Pow.{pow_mono}
use borrow.Author.Tests.{ltb-true}
use Rattle.lists.specs.Each.{each}
use Rattle.bits.specs.Bits.{gather}
use Rattle.bits.proofs.Gathered.{gather_lt}
use Rattle.slot.specs.declared.description.ChipSetType.{ChipSetType}
use Rattle.slot.specs.declared.description.ChipSetType.TheVariants.{Single, Banked, Multi}
use Rattle.refusal.specs.Refusal.{answer_code}
use Rattle.refusal.specs.First.{or_else, first_of}
use Rattle.refusal.specs.declared.Refusal.TheVariants.{
  OutOfDomain,
  ShortBuffer,
  WrongSize,
  MissingLayout,
  UnknownAlgorithm,
  BadLayout,
  XPin,
  Inconsistent,
  Unserved,
}
use Rattle.refusal.proofs.Places.{FirstRows, Small, small_or, small_if, small_test, small-first}
use Rattle.picks.specs.Picks.{chips_fit, picks_of, picked_by}
use Rattle.words.specs.declared.ByteOrder.{ByteOrder}
use Rattle.stored_slot.specs.Stored.{rom_at, stored_in, word_bytes, addr_base, stored_data_base, stored_select, stored_pins, within, in_window, addr_lines, data_lines, addr_position, one_inside}
use Rattle.stored_slot.specs.Words.{rom_words, all_words, stored_pick_position}
use Rattle.stored_slot.specs.Faults.{wrong_size, layout_fault, rom_fault, x_fault, x_faults, select_fault, pick_fault, roms_fault}
use Rattle.stored_slot.specs.declared.stored.SlotType.{SlotType}
use Rattle.stored_slot.specs.declared.stored.SlotType.TheVariants.{Unknown, Plugin, Roms}
use Rattle.stored_slot.specs.declared.stored.StoredSlot.{StoredSlot}
use Rattle.stored_slot.proofs.Listed.{listed-most}
use Rattle.unscramble.specs.Words.{rom_picked, address_at, value_at, serves}
use Rattle.unscramble.specs.Recovered.{
  first_for,
  kept_value,
  disagrees_for,
  inconsistent,
  unserved_in,
  unserved,
  read_back,
  read_refused,
  after_entries,
  read_after,
  of_type,
  unscrambled,
}
use Rattle.unscramble.proofs.Unrefused.{few-roms, rom-small}

-- an address has a bit for each of at most 32 lines
address-small : (s : StoredSlot) (rom i : ℕ) → address_at s rom i < 2 ^ 32
unfolding address_at
address-small s rom i =
    lt_of_lt_of_le (gather_lt (addr_lines (rom_at s rom)) (addr_position s rom) i)
    (pow_mono {i = addr_lines (rom_at s rom)} {j = 32} (listed-most 32 (rom_at s rom).addr))

-- a ROM that is picked is one of four
abbrev PickedIn : Option ℕ → Type 0
PickedIn None = Unit
PickedIn (Some rom) = rom < 4

picked_in : (set : ChipSetType) (roms bits : ℕ) → roms ≤ 4 → PickedIn (picked_by set roms bits)
picked_in Single roms bits l = omega arith
picked_in Banked roms bits l = by (ltb bits roms) refl
  where
    by : (t : Bool) → ltb bits roms ≡ t → PickedIn (cond t (Some bits) None)
    by true e = omega (arith, ltb-true bits roms e)
    by false e = tt
picked_in Multi roms bits l = by (eqb bits 1) (eqb bits 2) (eqb bits 4)
  where
    by : (one two four : Bool) → PickedIn (cond one (Some 0) (cond two (Some 1) (cond four (Some 2) None)))
    by true two four = omega arith
    by false true four = omega arith
    by false false true = omega arith
    by false false false = tt

-- before the entries
module _ (s : StoredSlot) (stored : List ℕ) where
  small-layout : Small (layout_fault s stored)
  unfolding layout_fault
  small-layout =
      small_test (not s.has_layout) MissingLayout _ (omega arith)
      (small_test (not (eqb s.alg_addr.alg 0)) UnknownAlgorithm _ (omega arith)
      (small_test (ltb 255 (addr_base s)) BadLayout _ (omega arith)
      (small_test (ltb 1 s.alg_data.alg) UnknownAlgorithm _ (omega arith)
      (small_test (ltb 255 (stored_data_base s)) BadLayout _ (omega arith)
      (small_test (not (eqb s.alg_dma.alg 0) || ltb 1 s.alg_dma.bit_mode) UnknownAlgorithm _ (omega arith)
      (small_test (leb 32 (stored_pins s)) BadLayout _ (omega arith)
      (small_if (not (eqb (length stored) (2 ^ stored_pins s * word_bytes s))) BadLayout (omega arith))))))))

  small-rom : (k : ℕ) → Small (rom_fault s k)
  unfolding rom_fault
  small-rom k =
      let r = rom_at s k in
      small_test (not r.has_map) MissingLayout _ (omega arith)
      (small_test (not (each (addr_lines r) (λ n. in_window s (get_or r.addr n 0)))) BadLayout _ (omega arith)
      (small_test (not (each (data_lines r) (λ n. within (stored_data_base s) (8 * word_bytes s) (get_or r.data_lines n 0)))) BadLayout _ (omega arith)
      (small_if (not (eqb (data_lines r) (8 * word_bytes s))) BadLayout (omega arith))))

  small_second : (t : Bool) → Small (cond t (x_fault s 2 s.x2) None)
  small_second true = small_if (not (one_inside s s.x2)) (XPin 2) (omega arith)
  small_second false = tt

  small_x : Small (x_faults s)
  small_x = small_test (not (one_inside s s.x1)) (XPin 1) _ (omega arith) (small_second (leb 3 s.num_roms))

  small-select : Small (select_fault s)
  small-select =
      small_test (not (eqb s.alg_cs.alg 0)) UnknownAlgorithm _ (omega arith)
      (small_if (ltb 255 (stored_select s) || not (in_window s (stored_select s))) BadLayout (omega arith))

  small-pick : (set : ChipSetType) → Small (pick_fault s set)
  small-pick Single = tt
  small-pick Banked = small_x
  small-pick Multi = small_or (x_faults s) (select_fault s) small_x small-select

  small-roms : (set : ChipSetType) (output marks : ℕ) → Small (roms_fault s set stored output marks)
  unfolding roms_fault
  small-roms set output marks =
      small_or (layout_fault s stored) _ small-layout
      (small_or (first_of s.num_roms (rom_fault s)) _ (small-first s.num_roms (rom_fault s) (λ k l. small-rom k))
      (small_test (not (chips_fit set s.num_roms)) BadLayout _ (omega arith)
      (small_or (pick_fault s set) _ (small-pick set) (small_if (ltb output (all_words s * word_bytes s) || ltb marks (all_words s)) ShortBuffer (omega arith)))))

-- by the entries
module _ (s : StoredSlot) (e : stored_in s ≡ true) (set : ChipSetType) (stored : List ℕ) where
  small-disagrees : (i : ℕ) (p : Option ℕ) → PickedIn p → Small (disagrees_for s set stored i p)
  small-disagrees i None h = tt
  small-disagrees i (Some rom) h =
      let n = address_at s rom i in
      small_if (serves s set rom n i && not (eqb (value_at s stored rom i) (kept_value s set stored rom n))) (Inconsistent rom n) (omega (arith, address-small s rom i))

  picked-rom : (i : ℕ) → PickedIn (rom_picked s set i)
  unfolding rom_picked
  picked-rom i = picked_in set s.num_roms (gather (picks_of set s.num_roms) (stored_pick_position s set) i) (few-roms s e)

  small-inconsistent : Small (inconsistent s set stored)
  small-inconsistent =
      small-first (2 ^ stored_pins s) (λ i. disagrees_for s set stored i (rom_picked s set i)) (λ i l. small-disagrees i (rom_picked s set i) (picked-rom i))

  small-unserved : Small (unserved s set)
  small-unserved =
      small-first s.num_roms (λ rom. first_of (rom_words s rom) (unserved_in s set rom))
      (λ rom l. small-first (rom_words s rom) (unserved_in s set rom)
      (λ n m. small_if (eqb (first_for s set rom n (2 ^ stored_pins s)) (2 ^ stored_pins s)) (Unserved rom n) (omega (arith, few-roms s e, rom-small s e rom l))))

module _ (order : ByteOrder) (s : StoredSlot) (e : stored_in s ≡ true) (stored output marks : List ℕ) where
  entries-place : (set : ChipSetType) (f : Option Refusal) → Small f → FirstRows (answer_code (after_entries order s set stored output marks f).answer)
  entries-place set None h = omega arith
  entries-place set (Some why) h = h

  after_place : (set : ChipSetType) (f : Option Refusal) → Small f → FirstRows (answer_code (read_after order s set stored output marks f).answer)
  after_place set (Some why) h = h
  after_place set None h =
      entries-place set (or_else (inconsistent s set stored) (unserved s set))
      (small_or (inconsistent s set stored) (unserved s set) (small-inconsistent s e set stored) (small-unserved s e set stored))

  plugin-place : (t : Bool) (done : List ℕ) → FirstRows (answer_code (cond t (read_refused ShortBuffer output marks) (read_back (Ok tt) done marks)).answer)
  plugin-place true done = omega arith
  plugin-place false done = omega arith

  type_place : (t : SlotType) → FirstRows (answer_code (of_type order s stored output marks t).answer)
  type_place Unknown = omega arith
  type_place Plugin = plugin-place (ltb (length output) (length stored)) _
  type_place (Roms set) = after_place set (roms_fault s set stored (length output) (length marks)) (small-roms s stored set (length output) (length marks))

  size-place : (t : Bool) → FirstRows (answer_code (cond t (read_refused WrongSize output marks) (of_type order s stored output marks s.slot_type)).answer)
  size-place true = omega arith
  size-place false = type_place s.slot_type

module _ (order : ByteOrder) (s : StoredSlot) (stored output marks : List ℕ) where
  in_place : (t : Bool) → stored_in s ≡ t
      → FirstRows (answer_code (cond t (cond (wrong_size s stored) (read_refused WrongSize output marks) (of_type order s stored output marks s.slot_type)) (read_refused OutOfDomain output marks)).answer)
  in_place true e = size-place order s e stored output marks (wrong_size s stored)
  in_place false e = omega arith

  pub read-place : FirstRows (answer_code (unscrambled order s stored output marks).answer)
  unfolding unscrambled
  read-place = in_place (stored_in s) refl
