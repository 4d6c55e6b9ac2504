-- `apart` meets its contract. The invariant: `ok` says whether each line passed lies on a pin of its own. Assumes nothing.
use mathlib.Core.Path.{◌≡◌}
use Prim.Native.Nat.{◌+◌}
use lib.ListN.{get_or}
use Rattle.lists.specs.Each.{each}
use Rattle.premises.specs.Wired.{apart_from}
use Rattle.wired.proofs.apart.apart.Given as goal

abbrev pub invariant-loop-j : goal.invariant-loop-j
invariant-loop-j l = l.ok ≡ each l.j (λ i. apart_from l.n (λ k. get_or l.pins (l.first + k) 0) i)
