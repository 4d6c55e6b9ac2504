-- The test of the room passes just the buffers that have it. Assumes nothing.
use mathlib.Core.Path.{◌≡◌}
use mathlib.Core.Bool.{true}
use mathlib.Core.List.{List}
use Prim.Native.Nat.{ℕ, ◌*◌}
use lib.Dec.{leb}
use lib.ListN.{length}
use borrow.Author.Tests.{leb-true, le-leb}
use Rattle.lists.proofs.Bools.{and_left, and_right}
use Rattle.slot.specs.declared.description.Description.{Description}
use Rattle.addr_layout.specs.declared.layout.AddrLayout.{AddrLayout}
use Rattle.premises.specs.Room.{words, Room}
use Rattle.premises.specs.Given.{roomy}

module _ (d : Description) (a : AddrLayout) (output marks : List ℕ) where
  pub room_is : roomy d a (length output) (length marks) ≡ true → Room d a output marks
  room_is e =
      let first = leb (words d a * d.word_bytes) (length output) in
      let second = leb (words d a) (length marks) in
      record { for-output = leb-true _ _ (and_left first second e); for-marks = leb-true _ _ (and_right first second e) }

  pub room_if : Room d a output marks → roomy d a (length output) (length marks) ≡ true
  room_if r = rw (le-leb _ _ r.for-output, le-leb _ _ r.for-marks)
