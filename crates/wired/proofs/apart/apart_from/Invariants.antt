-- `apart_from` meets its contract. The invariant: `ok` says whether the lines passed lie on other pins. Assumes nothing.
use mathlib.Core.Path.{◌≡◌}
use mathlib.Core.Bool.{◌||◌, not}
use Prim.Native.Nat.{◌+◌}
use lib.Dec.{eqb}
use lib.ListN.{get_or}
use Rattle.lists.specs.Each.{each}
use Rattle.wired.proofs.apart.apart_from.Given as goal

abbrev pub invariant-loop-k : goal.invariant-loop-k
invariant-loop-k l = l.ok ≡ each l.k (λ i. eqb l.j i || not (eqb l.pin (get_or l.pins (l.first + i) 0)))
