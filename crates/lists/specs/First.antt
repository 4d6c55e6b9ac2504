-- The first index that passes a test. Assumes nothing.
use Rattle.std.specs.Prelude.{ℕ, zero, suc, Bool, cond, ltb}

-- the first of 0 .. n - 1 that passes; n where none does
unfoldable pub first_where : ℕ → (ℕ → Bool) → ℕ
first_where zero p = 0
first_where (suc n) p = cond (ltb (first_where n p) n) (first_where n p) (cond (p n) n (suc n))
