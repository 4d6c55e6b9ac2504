-- `same_to` meets its contract. The invariant: `ok` says whether the entries passed are the same. Assumes nothing.
use mathlib.Core.Path.{◌≡◌}
use lib.Dec.{eqb}
use lib.ListN.{get_or}
use Rattle.lists.specs.Each.{each}
use Rattle.same_values.proofs.same_to.Given as goal

abbrev pub invariant-loop-k : goal.invariant-loop-k
invariant-loop-k l = l.ok ≡ each l.k (λ i. eqb (get_or l.list i 0) (get_or l.other i 0))
