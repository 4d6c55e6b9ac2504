-- `pin_of` meets its contract. The loop's invariant: `pin` is that of the lines passed. Assumes nothing.
use mathlib.Core.Path.{◌≡◌}
use Rattle.listing.specs.Lines.{pin_of}
use Rattle.listing.proofs.lines.pin_of.Given as goal

abbrev pub invariant-loop-k : goal.invariant-loop-k
invariant-loop-k l = l.pin ≡ pin_of l.lines l.kind l.k
