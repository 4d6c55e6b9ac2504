-- `lines_in` meets its contract. The loop's invariant: `ok` says whether each line passed is in the domain. Assumes nothing.
use mathlib.Core.Path.{◌≡◌}
use Rattle.lists.specs.Each.{each}
use Rattle.domain.specs.Domain.{line_in}
use Rattle.domain.proofs.chip.lines_in.Given as goal

abbrev pub invariant-loop-k : goal.invariant-loop-k
invariant-loop-k l = l.ok ≡ each l.k (λ j. line_in l.c j)
