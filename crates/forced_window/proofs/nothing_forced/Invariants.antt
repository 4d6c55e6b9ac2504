-- `nothing_forced` meets its contract. The invariant: `ok` says whether none of the overrides passed forces. Assumes nothing.
use mathlib.Core.Path.{◌≡◌}
use mathlib.Core.Bool.{not}
use lib.ListN.{get_or}
use Rattle.lists.specs.Each.{each}
use Rattle.premises.specs.Given.{forces}
use Rattle.forced_window.proofs.nothing_forced.Given as goal

abbrev pub invariant-loop-k : goal.invariant-loop-k
invariant-loop-k l = l.ok ≡ each l.k (λ i. not (forces l.a (get_or l.overrides i 0)))
