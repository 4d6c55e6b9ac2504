-- `kind_new` meets its contract. The loop's invariant: `ok` says whether each line passed is of another kind. Assumes nothing.
use mathlib.Core.Path.{◌≡◌}
use Rattle.lists.specs.Each.{each}
use mathlib.Core.Bool.{not}
use lib.Dec.{eqb}
use Rattle.slot.specs.Description.{kind_at}
use Rattle.domain.proofs.chip.kind_new.Given as goal

abbrev pub invariant-loop-j : goal.invariant-loop-j
invariant-loop-j l = l.ok ≡ each l.j (λ i. not (eqb (kind_at l.c i) (kind_at l.c l.k)))
