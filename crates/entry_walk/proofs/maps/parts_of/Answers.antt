-- `parts_of` meets its contract. The loop's invariant: what the maps passed say is in place. Assumes nothing.
use mathlib.Core.Path.{refl}
use native.Mathlib.Omega.{arith}
use Rattle.lists.proofs.Tab.{filled_none, filled_turn}
use Rattle.entry_walk.proofs.maps.parts_of.Goals as goal

pub loop-k-init : goal.loop-k-init
loop-k-init c = filled_none refl

pub loop-k-preserved : goal.loop-k-preserved
loop-k-preserved c = filled_turn c.loop-k.invariant (omega arith) c.part_of.ensures
