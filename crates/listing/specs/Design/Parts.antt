-- A choice number in two parts. Assumes nothing.
use Rattle.std.specs.Prelude.{ℕ, Bool, cond, not, ltb}

-- the bits of a number in two parts: those below a split, and those from it on
abbrev pub in_part : Bool → ℕ → ℕ → Bool
in_part low split bit = cond low (ltb bit split) (not (ltb bit split))
