-- What is to be shown of the address that is kept. Assumes nothing.
use Rattle.std.specs.Prelude.{◌≡◌, ℕ, ◌+◌, ◌-◌, ◌*◌, ◌^◌, ◌<◌}
use Rattle.lists.specs.Each.{total}
use Rattle.bits.specs.Bits.{bit, index_address}
use Rattle.running_address.specs.Kept.{highest_moved, moved_lines, kept_address, bits_moved}

-- 02 Slip 2 3: each step's address is the one rebuilt from all lines, whatever their positions are: shared ones, and such as no index has
pub record KeptLaw (lines : ℕ) (position : ℕ → ℕ) : Type 0 where
  pub rebuilt : (i : ℕ) → i < 2 ^ 32 → kept_address lines position i ≡ index_address lines position i
  -- 02 Slip 2 2: a line changes where its bit of the index moves
  pub moves : (i k : ℕ) → i + 1 < 2 ^ 32 → k < lines → (bit i (position k) ≡ bit (i + 1) (position k) → ⊥)
      → bit (moved_lines lines position (highest_moved (i + 1))) k ≡ 1
  -- 02 Slip 2 2: it stays where that bit does
  pub stays : (i k : ℕ) → i + 1 < 2 ^ 32 → k < lines → bit i (position k) ≡ bit (i + 1) (position k)
      → bit (moved_lines lines position (highest_moved (i + 1))) k ≡ 0

-- 02 Slip 2 3: over the 2^p - 1 steps of a table of 2^p entries 2·2^p - 2 - p index bits move, fewer than twice its entries
pub record MovesLaw (p : ℕ) : Type 0 where
  pub in_all : total (2 ^ p - 1) (bits_moved p) + 2 + p ≡ 2 * 2 ^ p
  pub few : total (2 ^ p - 1) (bits_moved p) < 2 * 2 ^ p
