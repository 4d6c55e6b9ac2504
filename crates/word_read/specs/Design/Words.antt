-- The words that are read, ROM after ROM. Assumes nothing.
use Rattle.std.specs.Prelude.{◌≡◌, ◌⊎◌, ℕ, ◌*◌, ◌^◌, ◌≤◌, ◌<◌, List, ◌++◌, length, get_or, drop}
use Rattle.words.specs.Words.{words_bytes}
use Rattle.entry_words.specs.Design.Reading.{ReadingIn, no_extent, rom_by, word_by, value_by}
use Rattle.entry_words.specs.Design.Kept.{outcome_of}
use Rattle.entry_words.specs.Design.Collected.{output_held}
use Rattle.entry_words.specs.declared.Reading.{Reading}
use Rattle.entry_words.specs.declared.Outcome.TheVariants.{Whole}

-- the ROMs before the k-th have m words: each has an entry, stands as that entry says, and every entry of those ROMs says the same
pub record WordsRead (r : Reading) (stored : List ℕ) (n k m : ℕ) (old output : List ℕ) : Type 0 where
  pub entry : ℕ → ℕ
  pub within : m ≤ r.words
  pub written : output ≡ words_bytes r.word_bytes (λ f. value_by r stored (entry f)) m ++ drop (m * r.word_bytes) old
  pub stored_in : (f : ℕ) → f < m → entry f < n
  pub for : (f : ℕ) → f < m → word_by r (entry f) ≡ f
  pub all : (i : ℕ) → i < n → rom_by r i < k → word_by r i < r.words → (word_by r i < m) × (value_by r stored i ≡ value_by r stored (entry (word_by r i)))

-- the entries are as many as so many bits tell apart, and the output has room
pub record ReadIn (r : Reading) (stored output : List ℕ) (pins : ℕ) : Type 0 where
  pub reading : ReadingIn r
  pub width : (r.word_bytes ≡ 1) ⊎ (r.word_bytes ≡ 2)
  pub pins_in : pins ≤ 31
  pub stored_in : 2 ^ pins * r.word_bytes ≤ length stored
  pub room : r.words * r.word_bytes ≤ length output

-- the k-th ROM is next, its words from the m-th on
pub record Next (r : Reading) (stored output : List ℕ) (pins k m : ℕ) : Type 0 where
  pub read_in : ReadIn r stored output pins
  pub place : k < 5
  pub before : WordsRead r stored (2 ^ pins) k m output output

-- the words of the k-th ROM
abbrev pub words_of : Reading → ℕ → ℕ
words_of r k = (get_or r.extents k no_extent).words

-- all words are read, and no entry disagrees
pub record AllRead (r : Reading) (stored : List ℕ) (n : ℕ) (old output : List ℕ) : Type 0 where
  pub whole : outcome_of (word_by r) (value_by r stored) r.words n ≡ Whole
  pub written : output ≡ output_held r.word_bytes (word_by r) (value_by r stored) r.words n old

-- the first n entries are stored, and the output has room
pub record Entries (r : Reading) (stored output : List ℕ) (n : ℕ) : Type 0 where
  pub reading : ReadingIn r
  pub stored_in : n * r.word_bytes ≤ length stored
  pub room : r.words * r.word_bytes ≤ length output
