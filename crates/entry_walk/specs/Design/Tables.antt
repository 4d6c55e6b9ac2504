-- The tables of all maps, one behind the other. Assumes nothing.
use Rattle.std.specs.Prelude.{◌≡◌, ℕ, ◌+◌, ◌<◌, List, get_or}

-- a table of 256 entries stands from a place on, and the other entries stay
pub record Put (at : ℕ) (table old new : List ℕ) : Type 0 where
  pub there : (j : ℕ) → j < 256 → get_or new (at + j) 0 ≡ get_or table j 0
  pub before : (j : ℕ) → j < at → get_or new j 0 ≡ get_or old j 0
