-- `socket` meets its contract. The invariant: the first k pins are in place. Assumes nothing.
use mathlib.Core.Path.{refl}
use native.Mathlib.Omega.{arith}
use Rattle.lists.proofs.Tab.{filled_none, filled_turn}
use Rattle.description_record.proofs.parts.socket.Goals as goal

pub loop-k-init : goal.loop-k-init
loop-k-init c = filled_none refl

pub loop-k-preserved : goal.loop-k-preserved
loop-k-preserved c = filled_turn c.loop-k.invariant (omega arith) (rw c.pair_at.ensures)
