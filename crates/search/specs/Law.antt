-- Demand 2's law of a search. Assumes nothing.
use Rattle.std.specs.Prelude.{◌≡◌, ℕ, ◌≤◌, ◌<◌, Option, Some, None}
use Rattle.search.specs.declared.Found.{Found}

-- 00 Demand 2: of the choices below k, c fits with score s, none scores lower, and every earlier one that fits scores higher
pub record Best (trial : ℕ → Option ℕ) (k c s : ℕ) : Type 0 where
  pub within : c < k
  pub fits : trial c ≡ Some s
  pub lowest : (j t : ℕ) → j < k → trial j ≡ Some t → s ≤ t
  pub earliest : (j t : ℕ) → j < c → trial j ≡ Some t → s < t

-- what is right of an answer over the choices below k
-- 00 Demand 2: to find nothing is right if no choice fits, and to find one is right if it is the best
abbrev pub Right : (ℕ → Option ℕ) → ℕ → Option Found → Type 0
Right trial k None = (j t : ℕ) → j < k → trial j ≡ Some t → ⊥
Right trial k (Some f) = Best trial k f.choice f.score
