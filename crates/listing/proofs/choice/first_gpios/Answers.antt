-- `first_gpios` meets its contract. Assumes nothing.
use native.Mathlib.Omega.{arith}
use lib.ListN.{length-replicate}
use Rattle.lists.proofs.Tab.{filled_none, filled_turn}
use Rattle.listing.proofs.choice.first_gpios.Goals as goal

pub loop-k-init : goal.loop-k-init
loop-k-init g c = filled_none (length-replicate g.row.N 0)

pub loop-k-preserved : goal.loop-k-preserved
loop-k-preserved g c = filled_turn c.loop-k.invariant c.loop-k-test.true c.gpio_if.ensures
