-- `none_on` meets its contract. The invariant: `ok` says whether none of the lines passed lies on the pin. Assumes nothing.
use mathlib.Core.Path.{◌≡◌}
use mathlib.Core.Bool.{not}
use Prim.Native.Nat.{◌+◌}
use lib.Dec.{eqb}
use lib.ListN.{get_or}
use Rattle.lists.specs.Each.{each}
use Rattle.wired.proofs.apart.none_on.Given as goal

abbrev pub invariant-loop-k : goal.invariant-loop-k
invariant-loop-k l = l.ok ≡ each l.k (λ j. not (eqb (get_or l.pins (l.first + j) 0) l.pin))
