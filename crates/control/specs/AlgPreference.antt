-- alg_preference.rs. Assumes nothing.
use Rattle.std.specs.Prelude.{ℕ, Bool, cond}

-- 01 alg_preference 1: qualifiers make it 2; where there are none, an ignore index makes it 1; with neither it is 0
abbrev pub preference_of : Bool → Bool → ℕ
preference_of qualifiers ignore_index = cond qualifiers 2 (cond ignore_index 1 0)
