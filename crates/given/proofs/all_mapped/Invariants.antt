-- `all_mapped` meets its contract. The invariant: `ok` says whether the ROMs passed are as they should be. Assumes nothing.
use mathlib.Core.Path.{◌≡◌}
use Rattle.lists.specs.Each.{each}
use Rattle.premises.specs.Given.{mapped_as}
use Rattle.given.proofs.all_mapped.Given as goal

abbrev pub invariant-loop-k : goal.invariant-loop-k
invariant-loop-k l = l.ok ≡ each l.k (λ i. mapped_as l.d l.a l.c l.s i)
