-- The address that is kept while the index rises by one, and the index bits that move. Assumes nothing.
use Rattle.std.specs.Prelude.{ℕ, zero, suc, ◌+◌, ◌-◌, ◌^◌, not, eqb}
use Rattle.std.specs.Int.Bits.{bit_xor}
use Rattle.std.specs.Int.Count.{count_trailing_zeros}
use Rattle.lists.specs.Each.{tally}
use Rattle.bits.specs.Bits.{bit, index_address}

-- the highest bit that moves on the way to an index of 32 bits, from the one before it
abbrev pub highest_moved : ℕ → ℕ
highest_moved i = count_trailing_zeros 32 i

-- the lines that move with bit t and the bits below it: those at positions 0 to t
abbrev pub moved_lines : ℕ → (ℕ → ℕ) → ℕ → ℕ
moved_lines lines position t = index_address lines position (2 ^ (t + 1) - 1)

-- 02 Slip 2 2: the address that is kept is that of index 0 first; each step changes the lines whose bits moved, and no others
unfoldable pub kept_address : ℕ → (ℕ → ℕ) → ℕ → ℕ
kept_address lines position zero = index_address lines position 0
kept_address lines position (suc i) = bit_xor (kept_address lines position i) (moved_lines lines position (highest_moved (suc i)))

-- how many of p index bits move from an index to the next: those that differ
abbrev pub bits_moved : ℕ → ℕ → ℕ
bits_moved p i = tally p (λ b. not (eqb (bit i b) (bit (i + 1) b)))
