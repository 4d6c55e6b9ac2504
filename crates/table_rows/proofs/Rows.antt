-- One turn of a row: where its word stands, where its entry goes, and what the entry is. Assumes nothing.
use mathlib.Core.Path.{◌≡◌, ◌∙◌, ap}
use mathlib.Core.List.{List}
use Prim.Native.Nat.{ℕ, ◌+◌, ◌*◌, ◌≤◌, ◌<◌}
use native.Mathlib.Omega.{arith}
use lib.Bits.{bit_and}
use lib.ListN.{length}
use Rattle.bits.specs.Bits.{index_address}
use Rattle.words.specs.Words.{chip_word_from}
use Rattle.words.specs.declared.ByteOrder.{ByteOrder}
use Rattle.words.proofs.Words.{words-room}
use Rattle.word_rows.specs.Design.Wrote.{said_by}
use Rattle.table_rows.specs.declared.ChipRow.{ChipRow}
use Rattle.table_rows.specs.Design.Rows.{ChipRowIn, chip_entry}

-- a row that has room has it for each of its entries
pub entry-room : (w first count q l : ℕ) → q < count → (first + count) * w ≤ l → (first + q) * w + w ≤ l
entry-room w first count q l h r = words-room (first + q) (first + count) w l (omega arith) r

module _ (w : ℕ) (row : ChipRow) (n : ℕ) (position : ℕ → ℕ) (lows highs images : List ℕ) (q address : ℕ) where
  -- the word at the kept address is in the lent bytes
  pub word_in : (moves table : List ℕ) → ChipRowIn w row n position moves lows highs images table → q < row.count
      → address ≡ index_address n position (row.first + q) → row.start + bit_and address row.mask * w + w ≤ length images
  word_in moves table i h e = rw e (i.words_in q h)

  -- what it comes to is the row's entry
  pub entry_is : (order : ByteOrder) (word entry : ℕ) → address ≡ index_address n position (row.first + q)
      → word ≡ chip_word_from order w images (row.start + bit_and address row.mask * w) → entry ≡ said_by lows highs word
      → entry ≡ chip_entry order w row n position lows highs images q
  entry_is order word entry e f g = g ∙ ap (said_by lows highs) (f ∙ ap (λ (a : ℕ). chip_word_from order w images (row.start + bit_and a row.mask * w)) e)
