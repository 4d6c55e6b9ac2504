-- Which byte of a dump is which byte of a word, in plain terms. Assumes nothing.
use Rattle.std.specs.Prelude.{ℕ, ◌+◌, ◌*◌, ◌/◌, ◌%◌, ◌≤◌, ◌<◌, ◌≡◌, List, [], ◌∷◌, length, get_or}
use Rattle.words.specs.Words.{chip_word, chip_bytes_of}
use Rattle.words.specs.declared.ByteOrder.{ByteOrder}
use Rattle.words.specs.declared.ByteOrder.TheVariants.{LowFirst, HighFirst}

-- of whatever takes word n of w bytes out of a chip's, in an order
pub record WordLaw (word : ByteOrder → ℕ → List ℕ → ℕ → ℕ) : Type 0 where
  -- 02 Slip 5 3: a word of one byte is that byte
  pub one : (order : ByteOrder) (b : List ℕ) (n : ℕ) → n < length b → word order 1 b n ≡ get_or b n 0
  -- 02 Slip 5 2: of two bytes the first is the low one where the low byte comes first, and the high one where the high byte does
  pub low : (b : List ℕ) (n : ℕ) → 2 * n + 1 < length b → word LowFirst 2 b n ≡ get_or b (2 * n) 0 + 256 * get_or b (2 * n + 1) 0
  pub high : (b : List ℕ) (n : ℕ) → 2 * n + 1 < length b → word HighFirst 2 b n ≡ 256 * get_or b (2 * n) 0 + get_or b (2 * n + 1) 0

-- of whatever has the w bytes of a word, in an order
pub record BytesLaw (bytes : ByteOrder → ℕ → ℕ → List ℕ) : Type 0 where
  pub one : (order : ByteOrder) (v : ℕ) → bytes order 1 v ≡ v % 256 ∷ []
  pub low : (v : ℕ) → bytes LowFirst 2 v ≡ v % 256 ∷ v / 256 % 256 ∷ []
  pub high : (v : ℕ) → bytes HighFirst 2 v ≡ v / 256 % 256 ∷ v % 256 ∷ []

-- 02 Slip 5 2: the definitions keep them
pub record Kept : Type 0 where
  pub word : WordLaw chip_word
  pub bytes : BytesLaw chip_bytes_of

-- nothing else does, so that a law which said less would not do
pub record Alone : Type 0 where
  pub word : (other : ByteOrder → ℕ → List ℕ → ℕ → ℕ) → WordLaw other → (order : ByteOrder) (w : ℕ) (b : List ℕ) (n : ℕ) → 1 ≤ w → w ≤ 2
      → n * w + w ≤ length b → other order w b n ≡ chip_word order w b n
  pub bytes : (other : ByteOrder → ℕ → ℕ → List ℕ) → BytesLaw other → (order : ByteOrder) (w v : ℕ) → 1 ≤ w → w ≤ 2
      → other order w v ≡ chip_bytes_of order w v
