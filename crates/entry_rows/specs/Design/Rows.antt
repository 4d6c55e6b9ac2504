-- How the entries are read: rows of 256, and the tables of what eight bits come to. No answer is defined by it: `collected_of` says what
-- the entries come to. Assumes nothing.
use Rattle.std.specs.Prelude.{◌≡◌, ℕ, ◌*◌, ◌/◌, ◌%◌, ◌≤◌, List}
use Rattle.lists.specs.Tab.{tab}
use Rattle.entry_words.specs.Design.Reading.{part_by}
use Rattle.entry_words.specs.declared.Map.{Map}
use Rattle.entry_words.specs.declared.Reading.{Reading}
use Rattle.entry_rows.specs.declared.Row.{Row}

-- what each map says of each value of eight bits that count a unit
abbrev pub byte_tables : List Map → ℕ → List ℕ
byte_tables maps unit = tab 1280 (λ q. part_by maps (q / 256) (q % 256 * unit))

abbrev pub high_of : List Map → ℕ → List ℕ
high_of maps i = tab 5 (λ k. part_by maps k i)

pub record TablesIn (r : Reading) (lows low-bytes high-bytes : List ℕ) : Type 0 where
  pub low : lows ≡ byte_tables r.address 1
  pub low_byte : low-bytes ≡ byte_tables r.data_lines 1
  pub high_byte : high-bytes ≡ byte_tables r.data_lines 256

pub record RowIn (r : Reading) (row : Row) : Type 0 where
  pub high : row.high ≡ high_of r.address row.start
  pub start : row.start % 256 ≡ 0
  pub count : row.count ≤ 256
