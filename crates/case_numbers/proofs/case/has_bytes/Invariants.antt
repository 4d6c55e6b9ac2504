-- `ok` says whether there are n numbers and each number passed is a byte. Assumes nothing.
use Rattle.std.proofs.Common.{length, ◌-◌, ◌≡◌, ◌≤◌, ◌&&◌, get_or}
use Rattle.std.specs.Prelude.{eqb, ltb}
use Rattle.lists.specs.Each.{each}
use Rattle.case_numbers.proofs.case.has_bytes.Given as goal

abbrev pub invariant-loop-k : goal.invariant-loop-k
invariant-loop-k l = l.ok ≡ eqb (length l.case) l.n && each l.k (λ j. ltb (get_or l.case j 0) 256)
