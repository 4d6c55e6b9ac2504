-- What a description in the domain keeps, a field a sentence. The tests are taken apart here and nowhere else: a sentence more is a
-- field more, and a line of the lemma below its record. Assumes nothing.
use mathlib.Core.Path.{◌≡◌, refl}
use mathlib.Core.Bool.{Bool, true, false, ◌&&◌, ◌||◌, not}
use Prim.Native.Nat.{ℕ, ◌≤◌, ◌<◌}
use native.Mathlib.Omega.{arith}
use lib.Dec.{leb, eqb}
use lib.ListN.{get_or}
use borrow.Author.Tests.{leb-true, eqb-true, eqb-false, ne_eqb, lt-leb, not-true}
use Rattle.gpio.specs.Candidates.{candidates_in}
use Rattle.lists.specs.Each.{each, between}
use Rattle.lists.proofs.Bools.{and_left, and_right, both, asked}
use Rattle.lists.proofs.Each.{each_at}
use Rattle.lists.proofs.Loops.{zero_one}
use Rattle.slot.specs.Description.{chip0, no_pin, no_chip, is_multi, line_at, kind_at}
use Rattle.slot.specs.SlotContext.{board_pins_in, raised_of}
use Rattle.slot.specs.declared.description.Board.{Board}
use Rattle.slot.specs.declared.description.Chip.{Chip}
use Rattle.slot.specs.declared.description.MultiCsConfig.{MultiCsConfig}
use Rattle.slot.specs.declared.description.Description.{Description}
use Rattle.domain.specs.Domain.{socket_in, board_in, line_in, lines_in, chip_in, chips_in, multi_in, package_in, slot_in, description_in}

-- a number between two others
pub between_is : (low high x : ℕ) → between low high x ≡ true → (low ≤ x) × (x ≤ high)
between_is low high x e = let (l, h) = both _ _ e in (leb-true low x l, leb-true x high h)

one_or_two : (w : ℕ) (one two : Bool) → eqb w 1 ≡ one → eqb w 2 ≡ two → one || two ≡ true → (1 ≤ w) × (w ≤ 2)
one_or_two w true two p q e = let h = eqb-true w 1 p in (omega arith, omega arith)
one_or_two w false true p q e = let h = eqb-true w 2 q in (omega arith, omega arith)
one_or_two w false false p q e = absurd (zero_one cc)

pub record BoardIn (b : Board) : Type 0 where
  pub pins : board_pins_in b.pins ≡ true
  pub socket : (k : ℕ) → k < 40 → candidates_in (get_or b.socket k no_pin).gpios ≡ true
  pub x1 : candidates_in b.x1 ≡ true
  pub x2 : candidates_in b.x2 ≡ true

board_in_lem : (b : Board) → board_in b ≡ true → BoardIn b
unfolding socket_in
board_in_lem b e =
    let (e, x2) = both _ _ e in
    let (e, x1) = both _ _ e in
    let (pins, socket) = both _ _ e in
    record { pins = pins; socket = each_at _ 40 socket; x1 = x1; x2 = x2 }

pub record ChipIn (c : Chip) : Type 0 where
  pub address-pins : (1 ≤ c.num_address_pins) × (c.num_address_pins ≤ 24)
  pub data-pins : (1 ≤ c.num_data_pins) × (c.num_data_pins ≤ 16)
  pub data-pin : (k : ℕ) → k < c.num_data_pins → get_or c.data_pins k 0 ≤ 40
  pub control_lines : c.control.count ≤ 8
  pub control_pin : (k : ℕ) → k < c.control.count → (line_at c.control k).pin ≤ 40
  -- no line of kind 0 to 5 has the kind of an earlier one
  pub kinds_differ : (j k : ℕ) → j < k → k < c.control.count → kind_at c.control k ≤ 5 → kind_at c.control j ≡ kind_at c.control k → ⊥
  pub size : c.size ≤ 16777216

chip_in_lem : (c : Chip) (w : ℕ) → chip_in c w ≡ true → ChipIn c
unfolding lines_in line_in
chip_in_lem c w e =
    let (e, size) = both _ _ e in
    let (e, control) = both _ _ e in
    let (address, data-lines) = both _ _ e in
    let (count, lines) = both _ _ control in
    record {
      address-pins = between_is 1 24 _ (and_left _ _ (and_left _ _ address));
      data-pins = between_is 1 16 _ (and_left _ _ data-lines);
      data-pin = λ k l.
          (between_is 1 40 (get_or c.data_pins k 0) (each_at _ c.num_data_pins (and_right (between 1 16 c.num_data_pins) _ data-lines) k l)).1;
      control_lines = leb-true _ 8 count;
      control_pin = λ k l.
          let pin = between 1 40 (line_at c.control k).pin in
          (between_is 1 40 (line_at c.control k).pin (and_left pin _ (and_left (pin && leb (kind_at c.control k) 6) _ (each_at _ c.control.count lines k l)))).1;
      kinds_differ = λ j k l m five same.
          let kind = kind_at c.control k in
          let differs = each k (λ i. not (eqb (kind_at c.control i) kind)) in
          let once : eqb kind 6 || differs ≡ true = and_right (between 1 40 (line_at c.control k).pin && leb kind 6) _ (each_at _ c.control.count lines k m) in
          let all : differs ≡ true = rw (ne_eqb kind 6 (λ q. omega arith)) at once in
          eqb-false (kind_at c.control j) kind (not-true _ (each_at _ k all j l)) same;
      size = leb-true _ 16777216 size;
    }

pub record MultiIn (m : MultiCsConfig) : Type 0 where
  pub commoned-lines : m.num_commoned ≤ 6
  pub ignored-lines : m.num_ignored ≤ 6

multi_in_lem : (m : MultiCsConfig) → multi_in m ≡ true → MultiIn m
multi_in_lem m e =
    let (e, ignored) = both _ _ e in
    let (_, commoned) = both (leb m.select 5) _ e in
    record { commoned-lines = leb-true _ 6 (and_left _ _ commoned); ignored-lines = leb-true _ 6 (and_left _ _ ignored) }

pub record DescriptionIn (d : Description) : Type 0 where
  pub board : BoardIn d.board
  pub word_bytes : (1 ≤ d.word_bytes) × (d.word_bytes ≤ 2)
  pub image_size : (256 ≤ d.max_image_size) × (d.max_image_size ≤ 1048576)
  pub offset : leb (raised_of d.pin_offset) 8 ≡ true
  pub chip-count : (1 ≤ d.num_chips) × (d.num_chips ≤ 4)
  pub chip : (k : ℕ) → k < d.num_chips → ChipIn (get_or d.chips k no_chip)
  pub config : d.has_multi ≡ true → MultiIn d.multi
  pub config_there : is_multi d.set_type ≡ true → d.has_multi ≡ true
  pub package_within : package_in d.«package» d.board ≡ true

pub description_in_lem : (d : Description) → description_in d ≡ true → DescriptionIn d
unfolding description_in slot_in chips_in
description_in_lem d e =
    let (e, within) = both _ _ e in
    let (e, there) = both _ _ e in
    let (e, config) = both _ _ e in
    let (e, chips) = both _ _ e in
    let (e, count) = both _ _ e in
    let (e, offset) = both _ _ e in
    let (e, size) = both _ _ e in
    let (board, word) = both _ _ e in
    let few = between_is 1 4 d.num_chips count in
    record {
      board = board_in_lem d.board board;
      word_bytes = one_or_two d.word_bytes _ _ refl refl word;
      image_size = between_is 256 1048576 d.max_image_size size;
      offset = offset;
      chip-count = few;
      chip = λ k l.
          let one = each_at _ 4 chips k (omega (arith, few)) in
          chip_in_lem (get_or d.chips k no_chip) d.word_bytes (rw (lt-leb d.num_chips k l) at one);
      config = λ h. multi_in_lem d.multi (asked _ _ config h);
      config_there = asked _ _ there;
      package_within = within;
    }

-- chip 0 is there, and so is a Multi set's configuration
pub chip0_in : (d : Description) → description_in d ≡ true → ChipIn (chip0 d)
chip0_in d e = let h = description_in_lem d e in h.chip 0 (omega (arith, h.chip-count))

pub config_in : (d : Description) → description_in d ≡ true → is_multi d.set_type ≡ true → MultiIn d.multi
config_in d e m = let h = description_in_lem d e in h.config (h.config_there m)
