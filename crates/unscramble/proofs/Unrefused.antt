-- What a slot of ROMs has that nothing before the entries refuses. Assumes nothing.
use Rattle.std.specs.Prelude.{Option, None}
use mathlib.Core.Path.{◌≡◌, refl}
use mathlib.Core.Bool.{Bool, true, false, cond, not, ◌&&◌, ◌||◌}
use mathlib.Core.List.{List}
use Prim.Native.Nat.{ℕ, zero, suc, ◌*◌, ◌^◌, ◌≤◌, ◌<◌}
use native.Mathlib.Nat.{div-le_self, le_trans, min-le_left}
use native.Mathlib.Omega.{arith}
use lib.Dec.{leb, ltb, eqb}
use lib.ListN.{length, get_or}
use borrow.Author.Tests.{leb-true, leb-false, ltb-false, eqb-true, not-false}
use Rattle.lists.specs.Each.{each}
use Rattle.gpio.specs.Candidates.{gpio_in, candidates_in}
use Rattle.gpio.specs.declared.candidates.Candidates.{Candidates}
use Rattle.gpio.specs.declared.candidates.Candidates.TheVariants.{Absent, One, Two}
use Rattle.lists.proofs.Bools.{and_left, and_right}
use Rattle.lists.proofs.Each.{each_at}
use Rattle.slot.specs.declared.description.ChipSetType.{ChipSetType}
use Rattle.slot.specs.declared.description.ChipSetType.TheVariants.{Single, Banked, Multi}
use Rattle.refusal.specs.declared.Refusal.{Refusal}
use Rattle.refusal.specs.declared.Refusal.TheVariants.{MissingLayout, UnknownAlgorithm, BadLayout}
use Rattle.refusal.specs.First.{or_else, fault_if, first_of}
use Rattle.picks.specs.Picks.{chips_fit}
use Rattle.refusal.proofs.Firsts.{or_left, or_right, first-all}
use Rattle.stored_slot.specs.Stored.{rom_at, stored_in, word_bytes, addr_base, stored_data_base, stored_select, stored_pins, addr_lines, data_lines, within, in_window, x_inside}
use Rattle.stored_slot.specs.Words.{rom_words, words_before, all_words, x_at, pick_gpio}
use Rattle.stored_slot.specs.Faults.{layout_fault, rom_fault, x_faults, select_fault, pick_fault, room_fault, roms_fault}
use Rattle.unscramble.specs.Design.Past.{PastTests}
use Rattle.unscramble.specs.Design.Reading.{Readable}
use Rattle.stored_slot.specs.declared.stored.StoredSlot.{StoredSlot}

no_fault : (b : Bool) (why : Refusal) → fault_if b why ≡ None → b ≡ false
no_fault true why e = cc
no_fault false why e = refl

or_false_left : (a b : Bool) → a || b ≡ false → a ≡ false
or_false_left true b e = e
or_false_left false b e = refl

or_false_right : (a b : Bool) → a || b ≡ false → b ≡ false
or_false_right true b e = cc
or_false_right false b e = e

last_none : (a b c d : Option Refusal) → or_else a (or_else b (or_else c d)) ≡ None → d ≡ None
last_none a b c d e = or_right c d (or_right b (or_else c d) (or_right a (or_else b (or_else c d)) e))

either-small : (t : Bool) (a b : ℕ) → a ≤ 255 → b ≤ 255 → cond t a b ≤ 255
either-small true a b h l = h
either-small false a b h l = l

-- a candidate in the domain is a GPIO
x_small : (s : StoredSlot) (c : Candidates) → candidates_in c ≡ true → x_inside s c ≤ 255
x_small s Absent e = omega arith
x_small s (One g) e = omega (arith, leb-true g 47 e)
x_small s (Two g h) e =
    let both = and_left (gpio_in g && gpio_in h) (not (eqb g h)) e in
    either-small (in_window s g) g h
    (omega (arith, leb-true g 47 (and_left (gpio_in g) (gpio_in h) both)))
    (omega (arith, leb-true h 47 (and_right (gpio_in g) (gpio_in h) both)))

-- the numbers in the domain
module _ (s : StoredSlot) (in_domain : stored_in s ≡ true) where
  abbrev counts : Bool
  counts = leb s.num_overrides 64

  abbrev pins : Bool
  pins = candidates_in s.x1 && candidates_in s.x2

  abbrev sizes : Bool
  sizes = each s.num_roms (λ k. leb (rom_at s k).chip_size (2 ^ 24))

  roms_in : leb s.num_roms 4 && sizes ≡ true
  unfolding stored_in
  roms_in = and_right (counts && pins) (leb s.num_roms 4 && sizes) in_domain

  pins_in : pins ≡ true
  unfolding stored_in
  pins_in = and_right counts pins (and_left (counts && pins) (leb s.num_roms 4 && sizes) in_domain)

  pub few-roms : s.num_roms ≤ 4
  few-roms = leb-true s.num_roms 4 (and_left (leb s.num_roms 4) sizes roms_in)

  pub rom-small : (k : ℕ) → k < s.num_roms → rom_words s k ≤ 2 ^ 24
  rom-small k l =
      let size = leb-true (rom_at s k).chip_size (2 ^ 24) (each_at (λ j. leb (rom_at s j).chip_size (2 ^ 24)) s.num_roms (and_right (leb s.num_roms 4) sizes roms_in) k l) in
      le_trans (min-le_left _ _) (le_trans (div-le_self _ _) size)

  before_small : (n : ℕ) → n ≤ s.num_roms → words_before s n ≤ n * 2 ^ 24
  unfolding words_before
  before_small zero l = omega arith
  before_small (suc n) l = omega (arith, before_small n (omega arith), rom-small n (omega arith))

  words-few : all_words s ≤ 2 ^ 26
  words-few = omega (arith, before_small s.num_roms (omega arith), few-roms)

  x_at-small : (k : ℕ) → x_at s k ≤ 255
  x_at-small k =
      either-small (eqb k 0) (x_inside s s.x1) (x_inside s s.x2)
      (x_small s s.x1 (and_left (candidates_in s.x1) (candidates_in s.x2) pins_in))
      (x_small s s.x2 (and_right (candidates_in s.x1) (candidates_in s.x2) pins_in))

module _ (s : StoredSlot) (set : ChipSetType) (stored : List ℕ) (output marks : ℕ)
    (past : PastTests s set stored output marks) where
  -- the tests one after the other
  layout-none : layout_fault s stored ≡ None
  unfolding roms_fault
  layout-none = or_left _ _ past.no_fault

  past-layout : or_else (first_of s.num_roms (rom_fault s)) (or_else (fault_if (not (chips_fit set s.num_roms)) BadLayout) (or_else (pick_fault s set) (room_fault s output marks))) ≡ None
  unfolding roms_fault
  past-layout = or_right (layout_fault s stored) _ past.no_fault

  past-roms : or_else (fault_if (not (chips_fit set s.num_roms)) BadLayout) (or_else (pick_fault s set) (room_fault s output marks)) ≡ None
  past-roms = or_right (first_of s.num_roms (rom_fault s)) _ past-layout

  past-count : or_else (pick_fault s set) (room_fault s output marks) ≡ None
  past-count = or_right (fault_if (not (chips_fit set s.num_roms)) BadLayout) _ past-roms

  pub fit : chips_fit set s.num_roms ≡ true
  fit = not-false _ (no_fault _ _ (or_left _ _ past-roms))

  short : ltb output (all_words s * word_bytes s) || ltb marks (all_words s) ≡ false
  short = no_fault _ _ (or_right (pick_fault s set) _ past-count)

  pub room-output : all_words s * word_bytes s ≤ output
  room-output = ltb-false output (all_words s * word_bytes s) (or_false_left _ (ltb marks (all_words s)) short)

  pub room-marks : all_words s ≤ marks
  room-marks = ltb-false marks (all_words s) (or_false_right (ltb output (all_words s * word_bytes s)) _ short)

  -- the algorithms and the table
  abbrev table_bad : Bool
  table_bad = not (eqb (length stored) (2 ^ stored_pins s * word_bytes s))

  abbrev dma_bad : Bool
  dma_bad = not (eqb s.alg_dma.alg 0) || ltb 1 s.alg_dma.bit_mode

  abbrev past-data_base : Option Refusal
  past-data_base = or_else (fault_if dma_bad UnknownAlgorithm) (or_else (fault_if (leb 32 (stored_pins s)) BadLayout) (fault_if table_bad BadLayout))

  abbrev past-addr_base : Option Refusal
  past-addr_base = or_else (fault_if (ltb 1 s.alg_data.alg) UnknownAlgorithm) (or_else (fault_if (ltb 255 (stored_data_base s)) BadLayout) past-data_base)

  abbrev past_addr_alg : Option Refusal
  past_addr_alg = or_else (fault_if (ltb 255 (addr_base s)) BadLayout) past-addr_base

  addr_alg_none : past_addr_alg ≡ None
  unfolding layout_fault
  addr_alg_none =
      or_right (fault_if (not (eqb s.alg_addr.alg 0)) UnknownAlgorithm) past_addr_alg
      (or_right (fault_if (not s.has_layout) MissingLayout) (or_else (fault_if (not (eqb s.alg_addr.alg 0)) UnknownAlgorithm) past_addr_alg) layout-none)

  addr_base_in : addr_base s ≤ 255
  addr_base_in = ltb-false 255 (addr_base s) (no_fault (ltb 255 (addr_base s)) BadLayout (or_left _ past-addr_base addr_alg_none))

  data_alg_none : or_else (fault_if (ltb 255 (stored_data_base s)) BadLayout) past-data_base ≡ None
  data_alg_none =
      or_right (fault_if (ltb 1 s.alg_data.alg) UnknownAlgorithm) _ (or_right (fault_if (ltb 255 (addr_base s)) BadLayout) past-addr_base addr_alg_none)

  data_base_in : stored_data_base s ≤ 255
  data_base_in = ltb-false 255 (stored_data_base s) (no_fault (ltb 255 (stored_data_base s)) BadLayout (or_left _ past-data_base data_alg_none))

  data_base-none : past-data_base ≡ None
  data_base-none = or_right (fault_if (ltb 255 (stored_data_base s)) BadLayout) past-data_base data_alg_none

  bytes_in : word_bytes s ≤ 2
  bytes_in =
      let mode = no_fault dma_bad UnknownAlgorithm (or_left _ (or_else (fault_if (leb 32 (stored_pins s)) BadLayout) (fault_if table_bad BadLayout)) data_base-none) in
      omega (arith, ltb-false 1 s.alg_dma.bit_mode (or_false_right (not (eqb s.alg_dma.alg 0)) (ltb 1 s.alg_dma.bit_mode) mode))

  table_none : or_else (fault_if (leb 32 (stored_pins s)) BadLayout) (fault_if table_bad BadLayout) ≡ None
  table_none = or_right (fault_if dma_bad UnknownAlgorithm) _ data_base-none

  pub pins_in_index : stored_pins s < 32
  pins_in_index = leb-false 32 (stored_pins s) (no_fault (leb 32 (stored_pins s)) BadLayout (or_left _ (fault_if table_bad BadLayout) table_none))

  pub table-long : length stored ≡ 2 ^ stored_pins s * word_bytes s
  table-long =
      eqb-true (length stored) (2 ^ stored_pins s * word_bytes s)
      (not-false _ (no_fault table_bad BadLayout (or_right (fault_if (leb 32 (stored_pins s)) BadLayout) (fault_if table_bad BadLayout) table_none)))

  -- a ROM's data lines
  pub data-whole : (rom : ℕ) → rom < s.num_roms → data_lines (rom_at s rom) ≡ 8 * word_bytes s
  unfolding rom_fault
  data-whole rom l =
      let missing = fault_if (not (rom_at s rom).has_map) MissingLayout in
      let lines-bad = fault_if (not (each (addr_lines (rom_at s rom)) (λ n. in_window s (get_or (rom_at s rom).addr n 0)))) BadLayout in
      let data-bad = fault_if (not (each (data_lines (rom_at s rom)) (λ n. within (stored_data_base s) (8 * word_bytes s) (get_or (rom_at s rom).data_lines n 0)))) BadLayout in
      let whole = first-all (rom_fault s) s.num_roms (or_left _ (or_else (fault_if (not (chips_fit set s.num_roms)) BadLayout) (or_else (pick_fault s set) (room_fault s output marks))) past-layout) rom l in
      eqb-true (data_lines (rom_at s rom)) (8 * word_bytes s) (not-false _ (no_fault (not (eqb (data_lines (rom_at s rom)) (8 * word_bytes s))) BadLayout (last_none missing lines-bad data-bad _ whole)))

  -- the lines that pick
  select-small : (x : ChipSetType) → pick_fault s x ≡ None → (k : ℕ) → pick_gpio s x k ≤ 255
  select-small Single e k = omega arith
  select-small Banked e k = x_at-small s past.domain k
  select-small Multi e zero =
      let outside = no_fault (ltb 255 (stored_select s) || not (in_window s (stored_select s))) BadLayout (or_right (fault_if (not (eqb s.alg_cs.alg 0)) UnknownAlgorithm) _ (or_right (x_faults s) (select_fault s) e)) in
      ltb-false 255 (stored_select s) (or_false_left (ltb 255 (stored_select s)) (not (in_window s (stored_select s))) outside)
  select-small Multi e (suc k) = x_at-small s past.domain k

  pub readable : Readable s set
  readable = record {
    pins = pins_in_index;
    bytes = bytes_in;
    addr-base = addr_base_in;
    data-base = data_base_in;
    pick = select-small set (or_left (pick_fault s set) (room_fault s output marks) past-count);
    words = words-few s past.domain;
  }
