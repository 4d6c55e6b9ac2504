-- Each refusal of a build is one of document 01's rows, with a place of 48 bits: no place, or one of at most four chips. Assumes nothing.
use Rattle.std.specs.Prelude.{Option, Some, Err, None}
use Rattle.refusal.specs.declared.Refusal.{Refusal}
use mathlib.Core.Path.{◌≡◌, refl}
use mathlib.Core.Bool.{Bool, true, false, not, ◌&&◌, cond}
use mathlib.Core.List.{List}
use Prim.Native.Nat.{ℕ, ◌≤◌}
use native.Mathlib.Omega.{arith}
use lib.Dec.{ltb}
use lib.ListN.{length, get_or}
use Rattle.slot.specs.Description.{no_chip}
use Rattle.refusal.specs.Refusal.{answer_code}
use Rattle.refusal.specs.First.{first_of}
use Rattle.refusal.specs.declared.Refusal.TheVariants.{OutOfDomain, RomTableTooLarge, InvalidConfig, BadPosition, MissingImageData, ShortImageData, ShortBuffer}
use Rattle.refusal.proofs.Places.{FirstRows, Small, small_or, small_if, small_test, small-first}
use Rattle.domain.proofs.Bounds.{description_in_lem}
use Rattle.picks.specs.Picks.{chips_fit}
use Rattle.words.specs.declared.ByteOrder.{ByteOrder}
use Rattle.build_args.specs.Domain.{build_in}
use Rattle.build_args.specs.Images.{chip_span, chip_bytes}
use Rattle.build_args.specs.Faults.{table_too_large, address_in, picks_in, data_positions_in, missing_at, short_at, too_short, lines_fault, images_fault, build_fault}
use Rattle.build_args.specs.declared.BuildArgs.{BuildArgs}
use Rattle.build_args.proofs.Facts.{described}
use Rattle.rom_image.specs.Build.{built, build_after, build_of}

module _ (b : BuildArgs) (images : List ℕ) (room : ℕ) (e : build_in b ≡ true) where
  chips-few : b.description.num_chips ≤ 4
  chips-few = (description_in_lem b.description (described b e)).chip-count.1

  small-lines : Small (lines_fault b.description b.addr b.cs_data)
  small-lines =
      let d = b.description in
      small_test (not (address_in b.addr)) BadPosition _ (omega arith)
      (small_test (not (chips_fit d.set_type d.num_chips)) InvalidConfig _ (omega arith)
      (small_if (not (picks_in d b.addr b.cs_data && data_positions_in b.cs_data)) BadPosition (omega arith)))

  small-images : Small (images_fault b.description images b.spans)
  small-images =
      let d = b.description in
      small_or (first_of d.num_chips (missing_at b.spans)) _
      (small-first d.num_chips (missing_at b.spans) (λ k l. small_if (not (chip_span b.spans k).present) (MissingImageData k) (omega (arith, chips-few))))
      (small-first d.num_chips (short_at d images b.spans)
      (λ k l. small_if (ltb (length (chip_bytes images (chip_span b.spans k))) (get_or d.chips k no_chip).size) (ShortImageData k) (omega (arith, chips-few))))

  small-build : Small (build_fault b images room)
  unfolding build_fault
  small-build =
      small_test (table_too_large b.description b.addr) RomTableTooLarge _ (omega arith)
      (small_or (lines_fault b.description b.addr b.cs_data) _ small-lines (small_or (images_fault b.description images b.spans) _ small-images (small_if (too_short b.description b.addr room) ShortBuffer (omega arith))))

module _ (order : ByteOrder) (b : BuildArgs) (images lent : List ℕ) where
  after_place : (f : Option Refusal) → Small f → FirstRows (answer_code (build_after order b images lent f).answer)
  after_place (Some why) h = h
  after_place None h = omega arith

  in_place : (t : Bool) → build_in b ≡ t
      → FirstRows (answer_code (cond t (build_after order b images lent (build_fault b images (length lent))) (built (Err OutOfDomain) lent)).answer)
  in_place true e = after_place (build_fault b images (length lent)) (small-build b images (length lent) e)
  in_place false e = omega arith

  pub build-place : FirstRows (answer_code (build_of order b images lent).answer)
  unfolding build_of
  build-place = in_place (build_in b) refl
