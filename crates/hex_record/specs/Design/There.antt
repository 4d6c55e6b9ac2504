-- Which bytes of a record a line has the digits of. Assumes nothing.
use Rattle.std.specs.Prelude.{◌≡◌, ℕ, ◌+◌, ◌*◌, ◌<◌, true, List, length, slice_index}
use Rattle.hex_record.specs.Digits.{is_digit}

pub record ByteThere (line : List ℕ) (k : ℕ) : Type 0 where
  pub long : 2 * k + 2 < length line
  pub high : is_digit (slice_index line (2 * k + 1)) ≡ true
  pub low : is_digit (slice_index line (2 * k + 2)) ≡ true

-- the first n bytes
abbrev pub BytesThere : List ℕ → ℕ → Type 0
BytesThere line n = (k : ℕ) → k < n → ByteThere line k
