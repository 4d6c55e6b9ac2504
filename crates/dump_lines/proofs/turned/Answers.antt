-- `turned` meets its contract. The loop's invariant: the lines passed are in place. Assumes nothing.
use mathlib.Core.Path.{refl, ap}
use Prim.Native.Nat.{ℕ}
use native.Mathlib.Omega.{arith}
use lib.ListN.{get_or}
use Rattle.lists.proofs.Tab.{filled_none, filled_turn}
use Rattle.dump_lines.proofs.turned.Goals as goal

pub loop-k-init : goal.loop-k-init
loop-k-init c = filled_none refl

pub loop-k-preserved : goal.loop-k-preserved
loop-k-preserved c = filled_turn c.loop-k.invariant (omega arith) (ap (λ (j : ℕ). get_or c.args.map.positions j 0) c.other_byte.ensures.value)
