-- How a loop ends, and what cannot be. Assumes nothing.
use mathlib.Core.Path.{◌≡◌}
use Prim.Native.Nat.{ℕ}
use native.Mathlib.Omega.{arith}

-- a loop that has counted to n has found what is asked of n
pub at_count : {A : Type 0} (f : ℕ → A) (k n : ℕ) (x : A) → k ≡ n → x ≡ f k → x ≡ f n
at_count f k n x e h = rw e at h

-- the same where the count comes before what is counted over: p is found so
pub at-count_of : {A B : Type 0} (f : ℕ → B → A) (p : B) (k n : ℕ) (x : A) → k ≡ n → x ≡ f k p → x ≡ f n p
at-count_of f p = at_count (λ k. f k p)

-- two constructors are told apart by an equation of 0 and 1, which `cc` finds
pub zero_one : ◌≡◌ {A = ℕ} 0 1 → ⊥
zero_one z = omega arith
