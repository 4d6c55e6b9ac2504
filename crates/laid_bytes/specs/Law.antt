-- What stands in a buffer that bytes were laid over. Assumes nothing.
use Rattle.std.specs.Prelude.{ℕ, ◌+◌, ◌<◌, ◌≤◌, ◌≡◌, List, ◌⊎◌, length, get_or}
use Rattle.laid_bytes.specs.Laid.{laid}

pub record LaidLaw (buffer : List ℕ) (at : ℕ) (bytes : List ℕ) : Type 0 where
  pub long : length (laid buffer at bytes) ≡ length buffer
  -- the bytes stand from the place on
  pub inside : (k : ℕ) → k < length bytes → at + k < length buffer → get_or (laid buffer at bytes) (at + k) 0 ≡ get_or bytes k 0
  -- what stands before them and behind them stays
  pub outside : (i : ℕ) → (i < at) ⊎ (at + length bytes ≤ i) → get_or (laid buffer at bytes) i 0 ≡ get_or buffer i 0
