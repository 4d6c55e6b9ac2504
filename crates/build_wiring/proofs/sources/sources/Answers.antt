-- `sources` meets its contract. The invariant: the sources for the first values are in place. Assumes nothing.
use mathlib.Core.Path.{refl}
use native.Mathlib.Omega.{arith}
use Rattle.lists.proofs.Tab.{filled_none, filled_turn}
use Rattle.build_wiring.proofs.sources.sources.Goals as goal

pub loop-bits-init : goal.loop-bits-init
loop-bits-init c = filled_none refl

pub loop-bits-preserved : goal.loop-bits-preserved
loop-bits-preserved c = filled_turn c.loop-bits.invariant (omega arith) (rw c.picked_by.ensures at c.source.ensures)
