-- A search over choices by number. Assumes nothing.
use Rattle.std.specs.Prelude.{ℕ, zero, suc, cond, ltb, Option, Some, None}
use Rattle.search.specs.declared.Found.{Found}

-- choice c is found, with score s
abbrev pub At : ℕ → ℕ → Option Found
At c s = Some (record { choice = c; score = s })

-- 00 Demand 2: a choice c with score s beside what was found: a lower score wins, an equal one does not
abbrev pub against : Option Found → ℕ → ℕ → Option Found
against None c s = At c s
against (Some b) c s = cond (ltb s b.score) (At c s) (Some b)

abbrev pub better_of : Option Found → ℕ → Option ℕ → Option Found
better_of f c None = f
better_of f c (Some s) = against f c s

-- 00 Demand 2: what is found is the best of the choices below k
unfoldable pub best : (ℕ → Option ℕ) → ℕ → Option Found
best trial zero = None
best trial (suc k) = better_of (best trial k) k (trial k)
