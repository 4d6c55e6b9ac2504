-- A line to which a number was added. Assumes nothing.
use Rattle.std.specs.Prelude.{ℕ, ◌+◌, ◌≤◌, ◌≡◌, List, ◌++◌, take}
use Rattle.io.specs.Digits.{last_digits, IsDigitCount}

-- n in decimal stands behind the first `at` bytes, and ends at r
pub record Grown (at r n : ℕ) (before after : List ℕ) : Type 0 where
  pub places : ℕ
  pub most : places ≤ 20
  pub fewest : IsDigitCount 10 1 n places
  pub end : r ≡ at + places
  pub front : take r after ≡ take at before ++ last_digits 10 places n
