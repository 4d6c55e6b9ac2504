-- The lines of a text. Assumes nothing.
use Rattle.std.specs.Prelude.{ℕ, ◌&&◌, cond, List, [], ◌∷◌, eqb, get_or}

-- a character ahead of a text's first line, which begins with it if there is none yet
abbrev pub onto : ℕ → List (List ℕ) → List (List ℕ)
onto c [] = (c ∷ []) ∷ []
onto c (line ∷ lines) = (c ∷ line) ∷ lines

-- the lines without their line ends
-- 02 Slip 1 2: an LF ends a line, and a CR directly ahead of it is part of the line end; any other CR is a character of its line
-- 02 Slip 1 9: what stands behind the last LF is a line too, if it is anything
unfoldable pub lines_of : List ℕ → List (List ℕ)
lines_of [] = []
lines_of (c ∷ text) =
    cond (eqb c 10) ([] ∷ lines_of text)
    (cond (eqb c 13 && eqb (get_or text 0 0) 10) (lines_of text) (onto c (lines_of text)))
