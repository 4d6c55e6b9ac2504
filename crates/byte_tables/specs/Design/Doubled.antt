-- A table that has twice as many entries. Assumes nothing.
use Rattle.std.specs.Prelude.{◌≡◌, ℕ, ◌+◌, ◌^◌, ◌<◌, List, get_or}
use Rattle.std.specs.Int.Bits.{bit_or}

-- the first entries stay, and stand behind them again with the bits of one number
pub record Doubled (size one : ℕ) (old new : List ℕ) : Type 0 where
  pub first : (j : ℕ) → j < size → get_or new j 0 ≡ get_or old j 0
  pub again : (j : ℕ) → j < size → get_or new (size + j) 0 ≡ bit_or (get_or old j 0) one

-- what a number comes to is joined of what its bits come to
pub record Joined (f : ℕ → ℕ) : Type 0 where
  pub none : f 0 ≡ 0
  pub joins : (k j : ℕ) → j < 2 ^ k → f (2 ^ k + j) ≡ bit_or (f j) (f (2 ^ k))
