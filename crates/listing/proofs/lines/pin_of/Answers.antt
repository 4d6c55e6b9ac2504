-- `pin_of` meets its contract. The loop's invariant: `pin` is that of the lines passed. Assumes nothing.
use mathlib.Core.Path.{◌≡◌, refl}
use mathlib.Core.Bool.{cond}
use Prim.Native.Nat.{ℕ, ◌+◌}
use native.Mathlib.Numerals.{add-one}
use lib.Dec.{eqb}
use Rattle.slot.specs.Description.{line_at}
use Rattle.slot.specs.declared.description.ControlLine.{ControlLine}
use Rattle.slot.specs.declared.description.ControlLines.{ControlLines}
use Rattle.listing.specs.Lines.{pin_of}
use Rattle.listing.proofs.lines.pin_of.Goals as goal

turn : (c : ControlLines) (kind k pin r : ℕ) (l : ControlLine) → l ≡ line_at c k → pin ≡ pin_of c kind k → r ≡ cond (eqb l.kind kind) l.pin pin
    → r ≡ pin_of c kind (k + 1)
unfolding pin_of
turn c kind k pin r l e h i = rw (i, e, h, add-one)

pub loop-k-init : goal.loop-k-init
unfolding pin_of
loop-k-init c = refl

pub loop-k-preserved : goal.loop-k-preserved
loop-k-preserved c =
    turn _ _ _ _ _ _ c.control_line.ensures c.loop-k.invariant c.pin_if-pin.ensures
