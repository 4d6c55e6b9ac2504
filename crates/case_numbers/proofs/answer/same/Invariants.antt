-- `ok` says whether the lengths are equal and each number passed is the same. Assumes nothing.
use Rattle.std.proofs.Common.{length, ◌-◌, ◌≡◌, ◌≤◌, ◌&&◌, get_or}
use Rattle.std.specs.Prelude.{eqb}
use Rattle.lists.specs.Each.{each}
use Rattle.case_numbers.proofs.answer.same.Given as goal

abbrev pub invariant-loop-k : goal.invariant-loop-k
invariant-loop-k l = l.ok ≡ eqb (length l.theirs) l.n && each l.k (λ j. eqb (get_or l.theirs j 0) (get_or l.ours j 0))
