-- `map_of` meets its contract. The invariant: the first k are in place. Assumes nothing.
use mathlib.Core.Bool.{cond}
use Prim.Native.Nat.{◌-◌}
use lib.Dec.{ltb}
use lib.ListN.{get_or}
use Rattle.lists.proofs.Tab.{Filled}
use Rattle.four_calls.proofs.stored.map_of.Given as goal

abbrev pub invariant-loop-k : goal.invariant-loop-k
invariant-loop-k l = Filled 32 (λ j. cond (ltb j l.n) (get_or l.gpios j 0) 255) l.out l.k
