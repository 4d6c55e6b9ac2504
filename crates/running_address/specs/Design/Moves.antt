-- The tables that a step goes by. Assumes nothing.
use Rattle.std.specs.Prelude.{◌≡◌, ℕ, ◌+◌, ◌<◌, ◌^◌, List, length, get_or}
use Rattle.bits.specs.Bits.{index_address}
use Rattle.running_address.specs.Kept.{moved_lines}

-- the lines at each position that an index has
pub record LinesAt (lines : ℕ) (position : ℕ → ℕ) (table : List ℕ) : Type 0 where
  pub long : length table ≡ 33
  pub at : (t : ℕ) → t < 32 → get_or table t 0 ≡ index_address lines position (2 ^ t)

-- the lines that move with each bit
pub record Moves (lines : ℕ) (position : ℕ → ℕ) (moves : List ℕ) : Type 0 where
  pub long : length moves ≡ 33
  pub up_to : (t : ℕ) → t < 32 → get_or moves t 0 ≡ moved_lines lines position t

-- whatever the lines' positions are that a table of moves is for: if one number is the address of index i, the other is that of i + step
abbrev pub Next : List ℕ → ℕ → ℕ → ℕ → ℕ → Type 0
Next moves address i step next =
    (lines : ℕ) (position : ℕ → ℕ) → Moves lines position moves → address ≡ index_address lines position i
    → next ≡ index_address lines position (i + step)
