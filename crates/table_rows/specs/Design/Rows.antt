-- Rows of words that stand in one chip. Assumes nothing.
use Rattle.std.specs.Prelude.{◌≡◌, ℕ, ◌+◌, ◌*◌, ◌≤◌, ◌<◌, ◌^◌, List, length, get_or}
use Rattle.std.specs.Int.Bits.{bit_and}
use Rattle.bits.specs.Bits.{index_address}
use Rattle.words.specs.Words.{chip_word_from}
use Rattle.words.specs.declared.ByteOrder.{ByteOrder}
use Rattle.word_rows.specs.Design.Wrote.{said_by}
use Rattle.running_address.specs.Design.Moves.{Moves}
use Rattle.table_rows.specs.declared.ChipRow.{ChipRow}

-- the tables of a word's bytes: a second byte without bits comes to none
pub record ByteTables (lows highs : List ℕ) : Type 0 where
  pub low : length lows ≡ 256
  pub high : length highs ≡ 256
  pub none : get_or highs 0 0 ≡ 0

-- where the word stands that the q-th index of a row says
abbrev pub word_at : ℕ → ChipRow → ℕ → (ℕ → ℕ) → ℕ → ℕ
word_at w row lines position q = row.start + bit_and (index_address lines position (row.first + q)) row.mask * w

-- the entry at that index
abbrev pub chip_entry : ByteOrder → ℕ → ChipRow → ℕ → (ℕ → ℕ) → List ℕ → List ℕ → List ℕ → ℕ → ℕ
chip_entry order w row lines position lows highs images q = said_by lows highs (chip_word_from order w images (word_at w row lines position q))

-- the address is the first index's, the words are in the lent bytes, and their entries have room
pub record ChipRowIn (w : ℕ) (row : ChipRow) (lines : ℕ) (position : ℕ → ℕ) (moves lows highs images table : List ℕ) : Type 0 where
  pub bytes : w ≤ 2
  pub tables : ByteTables lows highs
  pub moves_are : Moves lines position moves
  pub address_is : row.address ≡ index_address lines position row.first
  pub few : row.first + row.count < 2 ^ 32
  pub words_in : (q : ℕ) → q < row.count → word_at w row lines position q + w ≤ length images
  pub room : (row.first + row.count) * w ≤ length table
