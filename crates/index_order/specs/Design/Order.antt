-- The bits of an index in another order: first those that a ROM's address lines have, then those of the lines that pick, then those
-- that are left. Assumes nothing.
use Rattle.std.specs.Prelude.{◌≡◌, ℕ, ◌+◌, ◌-◌, ◌^◌, ◌≤◌, ◌<◌, get_or}
use Rattle.std.specs.Int.Bits.{bit_and, bit_or}
use Rattle.bits.specs.Bits.{scatter}
use Rattle.entry_words.specs.declared.Map.{Map}

-- the position of a map's line
abbrev pub at : Map → ℕ → ℕ
at m k = get_or m.positions k 0

-- one line more
pub record Pushed (m : Map) (p : ℕ) (o : Map) : Type 0 where
  pub lines : o.lines ≡ m.lines + 1
  pub first : (k : ℕ) → k < m.lines → at o k ≡ at m k
  pub last : at o m.lines ≡ p

-- some lines more
pub record Extends (m o : Map) : Type 0 where
  pub lines : m.lines ≤ o.lines
  pub first : (k : ℕ) → k < m.lines → at o k ≡ at m k

-- the address lines, and those that pick behind them
pub record Ordered (m picks o : Map) : Type 0 where
  pub lines : m.lines + picks.lines ≤ o.lines
  pub address : (k : ℕ) → k < m.lines → at o k ≡ at m k
  pub picked : (k : ℕ) → k < picks.lines → at o (m.lines + k) ≡ at picks k

-- positions apart from each other, in a word of so many bits
pub record Apart (n : ℕ) (p : ℕ → ℕ) (pins : ℕ) : Type 0 where
  pub below : (k : ℕ) → k < n → p k < pins
  pub own : (j k : ℕ) → j < n → k < n → p j ≡ p k → j ≡ k

-- the bits at all positions
abbrev pub mask_of : ℕ → (ℕ → ℕ) → ℕ → ℕ
mask_of n p pins = scatter n p pins (2 ^ n - 1)

-- each bit of an index has one position, or is forced
pub record Fits (n : ℕ) (p : ℕ → ℕ) (forced high pins : ℕ) : Type 0 where
  pub apart : Apart n p pins
  pub unforced : bit_and (mask_of n p pins) forced ≡ 0
  pub all : bit_or (mask_of n p pins) forced ≡ 2 ^ pins - 1
  pub high_forced : bit_and high forced ≡ high

-- the index whose bits in that order are e
abbrev pub index_of : ℕ → (ℕ → ℕ) → ℕ → ℕ → ℕ → ℕ
index_of n p high pins e = bit_or high (scatter n p pins e)
