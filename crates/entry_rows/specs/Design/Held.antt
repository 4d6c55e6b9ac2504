-- The entries in turn: what they are given, what the buffers hold of those passed, and what a walk over them answers. Assumes nothing.
use Rattle.std.specs.Prelude.{◌≡◌, ℕ, ◌+◌, ◌*◌, List, length, drop, Result, Ok}
use Rattle.entry_words.specs.Design.Reading.{word_by, value_by}
use Rattle.entry_words.specs.Design.Lent.{Lent}
use Rattle.entry_words.specs.Design.Collected.{output_held, marks_held}
use Rattle.entry_rows.specs.Design.Walks.{walked_of}
use Rattle.entry_rows.specs.Design.Rows.{RowIn, TablesIn}
use Rattle.entry_words.specs.declared.Reading.{Reading}
use Rattle.entry_rows.specs.declared.Row.{Row}

-- none of the m entries passed disagrees, and the buffers, which held other bytes at first, hold what these entries told
pub record Held (w words : ℕ) (t v : ℕ → ℕ) (output₀ marks₀ : List ℕ) (m : ℕ) (output marks : List ℕ) : Type 0 where
  pub long : length output ≡ length output₀
  pub marks-long : length marks ≡ length marks₀
  pub through : walked_of t v words m ≡ Ok tt
  pub values : output ≡ output_held w t v words m output₀
  pub told : marks ≡ marks_held t words m marks₀

-- what a walk over n entries answers and leaves in the buffers; words are open where it stops at one that disagrees
pub record Read (w words : ℕ) (t v : ℕ → ℕ) (n : ℕ) (output₀ marks₀ : List ℕ) (x : Result (Unit {0}) ℕ) (output marks : List ℕ) : Type 0 where
  pub answer : x ≡ walked_of t v words n
  pub rest : drop (words * w) output ≡ drop (words * w) output₀
  pub marks-rest : drop words marks ≡ drop words marks₀
  pub values : x ≡ Ok tt → output ≡ output_held w t v words n output₀
  pub told : x ≡ Ok tt → marks ≡ marks_held t words n marks₀

-- the entries from the m-th on, up to the n-th, and the buffers as the m before left them
pub record Onward (r : Reading) (stored output marks : List ℕ) (m n : ℕ) : Type 0 where
  pub lent : Lent r stored output marks n
  pub held : Held r.word_bytes r.words (word_by r) (value_by r stored) output marks m output marks

-- those of a row, with the tables to look them up in
pub record OnwardRow (r : Reading) (row : Row) (lows low-bytes high-bytes stored output marks : List ℕ) : Type 0 where
  pub in_row : RowIn r row
  pub tables : TablesIn r lows low-bytes high-bytes
  pub onward : Onward r stored output marks row.start (row.start + row.count)

-- n entries read by r
abbrev pub ReadBy : Reading → List ℕ → ℕ → List ℕ → List ℕ → Result (Unit {0}) ℕ → List ℕ → List ℕ → Type 0
ReadBy r stored = Read r.word_bytes r.words (word_by r) (value_by r stored)
