-- How an answer is written, number by number, and when it is the list's. Assumes nothing.
use Rattle.std.specs.Prelude.{ℕ, zero, suc, ◌+◌, Bool, ◌&&◌, cond, List, eqb, ltb, length, get_or, set}
use Rattle.lists.specs.Each.{each}

-- the lent buffer, and the place behind the numbers that were written
pub record Written : Type 0 where
  pub numbers : List ℕ
  pub end : ℕ

abbrev pub written : List ℕ → ℕ → Written
written numbers end = record { numbers = numbers; end = end }

-- one number more; one that does not fit is left out
unfoldable pub put_to : Written → ℕ → Written
put_to w x = cond (ltb w.end (length w.numbers)) (written (set w.numbers w.end x) (w.end + 1)) w

-- the first k of a list's numbers, one after the other
unfoldable pub put_all : ℕ → Written → List ℕ → Written
put_all zero w xs = w
put_all (suc k) w xs = put_to (put_all k w xs) (get_or xs k 0)

-- what each answer begins with: the case's kind, a number and a place
abbrev pub head_of : List ℕ → List ℕ → ℕ → ℕ → Written
head_of case ours number place = put_to (put_to (put_to (written ours 0) (get_or case 0 0)) number) place

-- the list's answer has n numbers, which are the first n of ours
abbrev pub same_as : List ℕ → List ℕ → ℕ → Bool
same_as theirs ours n = eqb (length theirs) n && each n (λ k. eqb (get_or theirs k 0) (get_or ours k 0))
