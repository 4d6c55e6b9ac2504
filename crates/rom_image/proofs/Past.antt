-- What a slot keeps in which no fault is found. Assumes nothing.
use Rattle.std.specs.Prelude.{None}
use mathlib.Core.Path.{◌≡◌, refl}
use mathlib.Core.Bool.{Bool, true, false, not, ◌&&◌}
use mathlib.Core.List.{List}
use Prim.Native.Nat.{ℕ, zero, suc, ◌*◌, ◌^◌, ◌≤◌, ◌<◌}
use native.Mathlib.Nat.{mul-suc}
use native.Mathlib.Omega.{arith}
use lib.Dec.{ltb}
use lib.ListN.{length, get_or}
use lib.Pow.{pow_mono}
use borrow.Author.Tests.{ltb-true, ltb-false}
use Rattle.domain.proofs.Bounds.{DescriptionIn, description_in_lem}
use Rattle.slot.specs.Description.{no_chip}
use Rattle.slot.specs.declared.description.Description.{Description}
use Rattle.refusal.specs.declared.Refusal.{Refusal}
use Rattle.refusal.specs.declared.Refusal.TheVariants.{RomTableTooLarge, InvalidConfig, BadPosition, ShortBuffer}
use Rattle.addr_layout.specs.declared.layout.AddrLayout.{AddrLayout}
use Rattle.cs_data_layout.specs.declared.layout.CsDataLayout.{CsDataLayout}
use Rattle.build_args.specs.Args.{args_of}
use Rattle.build_args.specs.Images.{chip_span, chip_bytes}
use Rattle.build_args.specs.Faults.{entries_of, table_size, table_too_large, too_short, address_in, picks_in, data_positions_in, missing_at, short_at, lines_fault, images_fault, lent_fault, build_fault}
use Rattle.picks.specs.Picks.{chips_fit}
use Rattle.refusal.specs.First.{fault_if, first_of}
use Rattle.build_args.specs.declared.images.ImageSpan.{ImageSpan}
use Rattle.refusal.proofs.Firsts.{or_left, or_right, first-all}
use Rattle.build_args.proofs.Facts.{described, selected, lines-few, data-count}
use Rattle.rom_image.specs.Design.Past.{PastTests}
use Rattle.rom_image.proofs.Buildable.{Buildable}

-- a test that found nothing
none_bad : (bad : Bool) (why : Refusal) → fault_if bad why ≡ None → bad ≡ false
none_bad true why e = cc
none_bad false why e = refl

not_false : (b : Bool) → not b ≡ false → b ≡ true
not_false true e = refl
not_false false e = cc

-- a table of few bytes has few entries, and so few pins
entries_of_lem : (n w m : ℕ) → 1 ≤ w → n * w ≤ m → n ≤ m
entries_of_lem n zero m l h = absurd (omega arith)
entries_of_lem n (suc w) m l h = let g = rw mul-suc at h in omega (arith, g)

pins_of : (p : ℕ) (t : Bool) → ltb p 32 ≡ t → 2 ^ p ≤ 2 ^ 20 → p < 32
pins_of p true e h = ltb-true p 32 e
pins_of p false e h = let b = pow_mono {i = 32} {j = p} (ltb-false p 32 e) in absurd (omega arith)

module _ (d : Description) (a : AddrLayout) (c : CsDataLayout) (images : List ℕ) (spans : List ImageSpan) (room : ℕ)
    (past : PastTests (args_of d a c spans) images room) where
  in_domain : DescriptionIn d
  in_domain = description_in_lem d (described (args_of d a c spans) past.domain)

  past_large : fault_if (table_too_large d a) RomTableTooLarge ≡ None
  unfolding build_fault
  past_large = or_left (fault_if (table_too_large d a) RomTableTooLarge) _ past.no_fault

  past-lines : lines_fault d a c ≡ None
  unfolding build_fault
  past-lines = or_left (lines_fault d a c) (lent_fault d a images spans room) (or_right (fault_if (table_too_large d a) RomTableTooLarge) _ past.no_fault)

  past-lent : lent_fault d a images spans room ≡ None
  unfolding build_fault
  past-lent = or_right (lines_fault d a c) (lent_fault d a images spans room) (or_right (fault_if (table_too_large d a) RomTableTooLarge) _ past.no_fault)

  pub table-small : table_size d a ≤ 2 ^ 20
  table-small =
      omega (arith, ltb-false d.max_image_size (table_size d a) (none_bad (table_too_large d a) RomTableTooLarge past_large), in_domain.image_size.1)

  pub entries-few : entries_of a ≤ 2 ^ 20
  entries-few = entries_of_lem (entries_of a) d.word_bytes (2 ^ 20) in_domain.word_bytes.0 table-small

  pub pins-few : a.num_addr_pins < 32
  pins-few = pins_of a.num_addr_pins (ltb a.num_addr_pins 32) refl entries-few

  pub table_fits : table_size d a ≤ room
  table_fits =
      ltb-false room (table_size d a)
      (none_bad (too_short d a room) ShortBuffer (or_right (images_fault d images spans) _ past-lent))

  bytes-lent : (k : ℕ) → k < d.num_chips → (get_or d.chips k no_chip).size ≤ length (chip_bytes images (chip_span spans k))
  bytes-lent k l =
      ltb-false (length (chip_bytes images (chip_span spans k))) (get_or d.chips k no_chip).size
      (none_bad _ _ (first-all (short_at d images spans) d.num_chips (or_right (first_of d.num_chips (missing_at spans)) _ (or_left (images_fault d images spans) _ past-lent)) k l))

  chips_right : chips_fit d.set_type d.num_chips ≡ true
  chips_right =
      not_false _
      (none_bad (not (chips_fit d.set_type d.num_chips)) InvalidConfig
      (or_left (fault_if (not (chips_fit d.set_type d.num_chips)) InvalidConfig) (fault_if (not (picks_in d a c && data_positions_in c)) BadPosition)
      (or_right (fault_if (not (address_in a)) BadPosition) _ past-lines)))

  pub buildable : Buildable d a c images spans
  buildable = record {
    lines = lines-few (args_of d a c spans) past.domain;
    data-lines = (data-count c (selected (args_of d a c spans) past.domain)).1;
    some_bytes = in_domain.word_bytes.0;
    bytes = in_domain.word_bytes.1;
    chips = chips_right;
    lent = bytes-lent;
  }
