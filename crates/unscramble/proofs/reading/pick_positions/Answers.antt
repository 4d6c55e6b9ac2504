-- `pick_positions` meets its contract. The loop's invariant: the positions of the lines passed are in place. Assumes nothing.
use mathlib.Core.Path.{refl}
use native.Mathlib.Omega.{arith}
use Rattle.lists.proofs.Tab.{filled_none, filled_turn}
use Rattle.unscramble.proofs.reading.pick_positions.Goals as goal

pub loop-k-init : goal.loop-k-init
loop-k-init c = filled_none refl

pub loop-k-preserved : goal.loop-k-preserved
loop-k-preserved c = filled_turn c.loop-k.invariant (omega arith) c.pick_entry.ensures
