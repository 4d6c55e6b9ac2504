-- What the entries are read from and into. Assumes nothing.
use Rattle.std.specs.Prelude.{ℕ, ◌*◌, ◌^◌, ◌≤◌, List, length}
use Rattle.entry_words.specs.Design.Reading.{ReadingIn}
use Rattle.entry_words.specs.declared.Reading.{Reading}

-- the lent buffers have room for all words and their marks
pub record Room (r : Reading) (output marks : List ℕ) : Type 0 where
  pub few : r.words ≤ 2 ^ 26
  pub output-room : r.words * r.word_bytes ≤ length output
  pub marks-room : r.words ≤ length marks

-- the first n entries are stored, and the lent buffers have room
pub record Lent (r : Reading) (stored output marks : List ℕ) (n : ℕ) : Type 0 where
  pub reading : ReadingIn r
  pub few : n ≤ 2 ^ 31
  pub entries : n * r.word_bytes ≤ length stored
  pub room : Room r output marks
