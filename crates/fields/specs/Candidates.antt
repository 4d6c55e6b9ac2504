-- The candidates of a pin in a byte record. Assumes nothing.
use Rattle.std.specs.Prelude.{ℕ, ◌+◌, Bool, ◌||◌, not, cond, List, [], ◌∷◌, eqb}
use Rattle.gpio.specs.declared.candidates.Candidates.{Candidates}
use Rattle.gpio.specs.declared.candidates.Candidates.TheVariants.{Absent, One, Two}
use Rattle.fields.specs.Fields.{byte_at, field}

-- "255 255 none; g 255 one; g h two"
-- 01 Shape 4: a pin's candidates are none, or one, or two GPIOs
-- 01 Shape 10: a byte of 255 is no GPIO
abbrev pub pair_of : ℕ → ℕ → Candidates
pair_of g h = cond (eqb g 255) Absent (cond (eqb h 255) (One g) (Two g h))

abbrev pub pair_at : List ℕ → ℕ → Candidates
pair_at b p = pair_of (byte_at b p) (byte_at b (p + 1))

-- a second candidate without a first is none of these
abbrev pub pair_in : List ℕ → ℕ → Bool
pair_in b p = not (eqb (byte_at b p) 255) || eqb (byte_at b (p + 1)) 255

-- and the bytes of a pin's candidates
abbrev pub pair_bytes : Candidates → List ℕ
pair_bytes Absent = 255 ∷ 255 ∷ []
pair_bytes (One g) = g ∷ 255 ∷ []
pair_bytes (Two g h) = g ∷ h ∷ []

abbrev pub pair_field : Candidates → List ℕ
pair_field c = field 2 (pair_bytes c)
