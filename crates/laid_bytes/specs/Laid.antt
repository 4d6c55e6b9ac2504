-- Bytes laid over those of a buffer. Assumes nothing.
use Rattle.std.specs.Prelude.{ℕ, ◌+◌, List, [], ◌∷◌, set}

-- the buffer with bytes in it, one after the other from a place on; a byte past the buffer's end is dropped
unfoldable pub laid : List ℕ → ℕ → List ℕ → List ℕ
laid buffer at [] = buffer
laid buffer at (x ∷ xs) = laid (set buffer at x) (at + 1) xs
