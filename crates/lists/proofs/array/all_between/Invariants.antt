-- `all_between` meets its contract. The loop's invariant: `ok` says whether each entry passed is in range. Assumes nothing.
use mathlib.Core.Path.{◌≡◌}
use Rattle.lists.specs.Each.{each, between}
use lib.ListN.{get_or}
use Rattle.lists.proofs.array.all_between.Given as goal

abbrev pub invariant-loop-k : goal.invariant-loop-k
invariant-loop-k l = l.ok ≡ each l.k (λ j. between l.low l.high (get_or l.list j 0))
