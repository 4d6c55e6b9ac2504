-- The first fault of several, by what 'first' says, and the refusals' numbers. Assumes nothing.
use Rattle.std.specs.Prelude.{ℕ, ◌≤◌, ◌<◌, ◌≡◌, Option, Some, None}
use Rattle.refusal.specs.First.{first_of}
use Rattle.refusal.specs.Refusal.{number_of}
use Rattle.refusal.specs.declared.Refusal.{Refusal}

-- one of n has the fault r, and none before it has any
pub record Lowest (n : ℕ) (f : ℕ → Option Refusal) (r : Refusal) : Type 0 where
  pub at : ℕ
  pub within : at < n
  pub fault : f at ≡ Some r
  pub none_before : (j : ℕ) → j < at → f j ≡ None

pub record FirstLaw (n : ℕ) (f : ℕ → Option Refusal) : Type 0 where
  -- 01 addr_layout 6: the first of n faults is that of the lowest which has one
  pub found : (r : Refusal) → first_of n f ≡ Some r → Lowest n f r
  pub is_found : (r : Refusal) → Lowest n f r → first_of n f ≡ Some r
  -- there is none exactly if none of them has one
  pub none : first_of n f ≡ None → (k : ℕ) → k < n → f k ≡ None
  pub is_none : ((k : ℕ) → k < n → f k ≡ None) → first_of n f ≡ None

-- a refusal's number is one of the table's 28 rows, so that 0 says success alone
pub record NumberLaw (why : Refusal) : Type 0 where
  pub some : 1 ≤ number_of why
  pub most : number_of why ≤ 28
