-- The digits of a number counted until it has run out. `ones` goes on for as many steps as the number is large, which no computation
-- over sets of GPIOs gets through. Assumes nothing.
use mathlib.Core.Path.{◌≡◌, refl, ap}
use Prim.Native.Nat.{ℕ, zero, suc, ◌+◌, ◌/◌, ◌%◌}
use lib.Count.{ones_in, ones}

abbrev pub count : ℕ → ℕ → ℕ
count zero n = 0
count (suc d) zero = 0
count (suc d) (suc n) = suc n % 2 + count d (suc n / 2)

none : (d : ℕ) → ones_in d 0 ≡ 0
unfolding ones_in
none zero = refl
none (suc d) = rw (none d)

same : (d n : ℕ) → ones_in d n ≡ count d n
unfolding ones_in
same zero n = refl
same (suc d) zero = none (suc d)
same (suc d) (suc n) = ap (λ (x : ℕ). suc n % 2 + x) (same d (suc n / 2))

pub counted : (n : ℕ) → ones n ≡ count n n
unfolding ones
counted n = same n n
