-- How a row of a table is filled. Assumes nothing.
use Rattle.std.specs.Prelude.{◌≡◌, ℕ, ◌+◌, ◌*◌, ◌%◌, ◌^◌, ◌≤◌, ◌<◌, List, length, get_or}
use Rattle.std.specs.Int.Bits.{bit_and}
use Rattle.lists.specs.Tab.{tab}
use Rattle.words.specs.Words.{chip_word_from}
use Rattle.words.specs.declared.ByteOrder.{ByteOrder}
use Rattle.word_rows.specs.Design.Wrote.{Wrote}
use Rattle.running_address.specs.Design.Moves.{Moves}
use Rattle.table_fill.specs.Design.Entries.{WiringIn, SourcesIn, part_of, scrambled_by, raw_from, entry_by}
use Rattle.table_fill.specs.declared.wiring.Wiring.{Wiring}
use Rattle.table_fill.specs.declared.sources.Source.{Source}
use Rattle.table_fill.specs.declared.row.Row.{Row}

-- where the bits of an address under a mask name a word of a source, that word is read at the address
abbrev pub ReadsBy : Source → ℕ → Type 0
ReadsBy s mask =
    (order : ByteOrder) (images : List ℕ) (w pad n : ℕ) → n < 2 ^ 32 → bit_and n mask < s.count
    → raw_from order images w s pad n ≡ chip_word_from order w images (s.start + bit_and n mask * w)

-- from an address on a source has no words
abbrev pub Pads : Source → ℕ → Type 0
Pads s lowest = (order : ByteOrder) (images : List ℕ) (w pad n : ℕ) → lowest ≤ n → raw_from order images w s pad n ≡ pad

-- the positions of the address lines, and of those that pick
abbrev pub line_positions : Wiring → ℕ → ℕ
line_positions w k = get_or w.address k 0

abbrev pub pick_positions : Wiring → ℕ → ℕ
pick_positions w k = get_or w.picks k 0

-- the tables of a table: what moves with each bit of an index, and what each byte of a word comes to
pub record TablesOf (w : Wiring) (moves picking lows highs : List ℕ) : Type 0 where
  pub moves_are : Moves w.num_lines (line_positions w) moves
  pub picking_are : Moves w.num_picks (pick_positions w) picking
  pub lows_are : lows ≡ tab 256 (λ v. scrambled_by w (v * 2 ^ 0))
  pub highs_are : highs ≡ tab 256 (λ v. scrambled_by w (v * 2 ^ 8))

-- a row of entries: what its first index says, and room for them
pub record RowIn (w : Wiring) (bytes : ℕ) (sources : List Source) (pad : ℕ) (row : Row) (moves picking lows highs images table : List ℕ) : Type 0 where
  pub wiring_in : WiringIn w
  pub bytes_are : bytes ≡ w.word_bytes
  pub sources_in : SourcesIn images w sources
  pub pad_short : pad < 2 ^ (8 * bytes)
  pub tables : TablesOf w moves picking lows highs
  pub says : row.part ≡ part_of w row.first
  pub begins : row.first % 256 ≡ 0
  pub short : row.count ≤ 256
  pub few : row.first + row.count ≤ 2 ^ 20
  pub room : (row.first + row.count) * bytes ≤ length table

-- the entries of a row are written behind those before it
abbrev pub RowWritten : ByteOrder → Wiring → ℕ → List Source → ℕ → Row → List ℕ → List ℕ → List ℕ → Type 0
RowWritten order w bytes sources pad row images old new =
    Wrote bytes (λ q. entry_by order w sources pad images (row.first + q)) row.first row.count old new
