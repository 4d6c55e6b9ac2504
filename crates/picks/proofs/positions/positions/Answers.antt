-- `positions` meets its contract. Assumes nothing.
use mathlib.Core.Path.{refl}
use native.Mathlib.Omega.{arith}
use lib.ListN.{length-replicate}
use Rattle.lists.proofs.Tab.{filled_none, filled_turn}
use Rattle.picks.proofs.positions.positions.Goals as goal

pub loop-k-init : goal.loop-k-init
loop-k-init g c = filled_none (length-replicate g.row.N 0)

pub loop-k-preserved : goal.loop-k-preserved
loop-k-preserved g c = filled_turn c.loop-k.invariant (omega arith) c.position.ensures
