-- Rules and sums that go over the entries of an array up to its count. Assumes nothing.
use Rattle.std.specs.Prelude.{ℕ, zero, suc, ◌+◌, Bool, true, ◌&&◌, cond, leb}

-- whether a number is in a range, both ends included
abbrev pub between : ℕ → ℕ → ℕ → Bool
between low high x = leb low x && leb x high

-- whether each of 0 .. n - 1 passes
unfoldable pub each : ℕ → (ℕ → Bool) → Bool
each zero p = true
each (suc k) p = each k p && p k

-- how many of 0 .. n - 1 pass
unfoldable pub tally : ℕ → (ℕ → Bool) → ℕ
tally zero p = 0
tally (suc k) p = tally k p + cond (p k) 1 0

-- the sum of f 0, f 1, .. f (n - 1)
unfoldable pub total : ℕ → (ℕ → ℕ) → ℕ
total zero f = 0
total (suc n) f = total n f + f n
