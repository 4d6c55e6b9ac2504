-- Which record each byte of a chip comes from. Assumes nothing.
use Rattle.std.specs.Prelude.{ℕ, ◌+◌, ◌-◌, ◌<◌, ◌≡◌, Bool, true, false, ◌&&◌, List, ltb, leb, length, get_or}
use Rattle.hex_record.specs.Record.{count_of, data_byte, is_data, address_of}
use Rattle.hex_read.specs.Read.{stored, blank}
use Rattle.hex_law.specs.Verdicts.{line_at, upper_at}

-- the address of line k's first data byte
abbrev pub start_of : List (List ℕ) → ℕ → ℕ
start_of lines k = address_of (upper_at lines k) (line_at lines k)

-- line k is a record with a data byte at address a
abbrev pub names : List (List ℕ) → ℕ → ℕ → Bool
names lines k a = is_data (line_at lines k) && (leb (start_of lines k) a && ltb a (start_of lines k + count_of (line_at lines k)))

-- the bytes that lines say of a chip of so many: of any lines, though none are stored but those of a sound text
pub record BytesLaw (lines : List (List ℕ)) (size : ℕ) : Type 0 where
  pub long : length (stored 0 lines (blank size)) ≡ size
  -- 02 Slip 1 2: of the records that name a byte the last says it
  pub latest : (a k : ℕ) → a < size → k < length lines → names lines k a ≡ true → ((j : ℕ) → k < j → j < length lines → names lines j a ≡ false)
      → get_or (stored 0 lines (blank size)) a 0 ≡ data_byte (line_at lines k) (a - start_of lines k)
  -- 02 Slip 1 2: a byte that no record names is hex FF
  pub unnamed : (a : ℕ) → a < size → ((j : ℕ) → j < length lines → names lines j a ≡ false) → get_or (stored 0 lines (blank size)) a 0 ≡ 255
