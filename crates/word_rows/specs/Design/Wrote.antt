-- Words written one behind the other, and what an entry says by the tables of its bytes. Assumes nothing.
use Rattle.std.specs.Prelude.{◌≡◌, ℕ, ◌+◌, ◌*◌, ◌/◌, ◌%◌, ◌≤◌, ◌<◌, List, ◌++◌, length, get_or, drop}
use Rattle.std.specs.Int.Bits.{bit_or}
use Rattle.words.specs.Words.{words_bytes, word, entry_word}

-- behind words that stand at the front of a buffer there are now so many more
abbrev pub Wrote : ℕ → (ℕ → ℕ) → ℕ → ℕ → List ℕ → List ℕ → Type 0
Wrote w f at count old new =
    (g : ℕ → ℕ) (rest : List ℕ) → old ≡ words_bytes w g at ++ drop (at * w) rest → ((q : ℕ) → q < count → g (at + q) ≡ f q)
    → new ≡ words_bytes w g (at + count) ++ drop ((at + count) * w) rest

-- what the tables of its two bytes say of an entry
abbrev pub said_by : List ℕ → List ℕ → ℕ → ℕ
said_by low-bytes high-bytes entry = bit_or (get_or low-bytes (entry % 256) 0) (get_or high-bytes (entry / 256) 0)

-- what the entries of a row say: their indices differ in the low bits alone
abbrev pub row_says : ℕ → List ℕ → List ℕ → List ℕ → List ℕ → ℕ → ℕ → ℕ
row_says w lows low-bytes high-bytes stored from q = said_by low-bytes high-bytes (entry_word w stored (bit_or from (get_or lows q 0)))

-- the tables have an entry for each byte
pub record Tables (lows low-bytes high-bytes : List ℕ) : Type 0 where
  pub low : length lows ≡ 256
  pub low_byte : length low-bytes ≡ 256
  pub high_byte : length high-bytes ≡ 256

-- a row's entries are stored, and its words have room
pub record RowIn (w : ℕ) (lows low-bytes high-bytes : List ℕ) (from : ℕ) (stored output : List ℕ) (at count : ℕ) : Type 0 where
  pub tables : Tables lows low-bytes high-bytes
  pub short : count ≤ 256
  pub stored_in : (q : ℕ) → q < count → bit_or from (get_or lows q 0) * w + w ≤ length stored
  pub room : (at + count) * w ≤ length output

-- the words at a place are what the entries of a row say
abbrev pub SameRow : ℕ → List ℕ → List ℕ → List ℕ → ℕ → List ℕ → List ℕ → ℕ → ℕ → Type 0
SameRow w lows low-bytes high-bytes from stored output at count =
    (q : ℕ) → q < count → word w output (at + q) ≡ row_says w lows low-bytes high-bytes stored from q
