-- `near` meets its contract. The loop's invariant: `ok` says whether the qualifiers passed are at most 7 lower. Assumes nothing.
use mathlib.Core.Path.{◌≡◌}
use Prim.Native.Nat.{◌+◌}
use Rattle.lists.specs.Each.{each}
use lib.Dec.{leb}
use Rattle.domain.specs.Domain.{qualifier_gpio}
use Rattle.domain.proofs.qualifiers.near.Given as goal

abbrev pub invariant-loop-j : goal.invariant-loop-j
invariant-loop-j l =
    l.ok ≡ each l.j (λ i. leb (qualifier_gpio l.qualifiers l.gpios l.k) (qualifier_gpio l.qualifiers l.gpios i + 7))
