-- `each_in` meets its contract. The loop's invariant: `ok` says whether the qualifiers passed are in the domain. Assumes nothing.
use mathlib.Core.Path.{◌≡◌}
use Rattle.lists.specs.Each.{each}
use Rattle.domain.specs.Domain.{qualifier_in}
use Rattle.domain.proofs.qualifiers.each_in.Given as goal

abbrev pub invariant-loop-k : goal.invariant-loop-k
invariant-loop-k l = l.ok ≡ each l.k (λ j. qualifier_in l.qualifiers l.count l.gpios l.lines j)
