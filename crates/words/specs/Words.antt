-- Words of w bytes, in and as bytes. Assumes nothing.
use Rattle.std.specs.Prelude.{ℕ, zero, suc, ◌+◌, ◌*◌, ◌/◌, ◌%◌, List, [], ◌∷◌, reverse, get_or, take, drop}
use Rattle.lists.specs.Tab.{joined}
use Rattle.words.specs.declared.ByteOrder.{ByteOrder}
use Rattle.words.specs.declared.ByteOrder.TheVariants.{LowFirst, HighFirst}

-- the number of w bytes from a place
-- 01 rom_image 9: the first byte of a word is its lowest
unfoldable pub word_from : ℕ → List ℕ → ℕ → ℕ
word_from zero b at = 0
word_from (suc w) b at = get_or b at 0 + 256 * word_from w b (at + 1)

-- word n of bytes
abbrev pub word : ℕ → List ℕ → ℕ → ℕ
word w b n = word_from w b (n * w)

-- the entry at index i of a table's bytes
abbrev pub entry_word : ℕ → List ℕ → ℕ → ℕ
entry_word w b i = word w b i

-- the bytes of a word, lowest first, as they stand in a dump; and those of a dump's word, lowest first
-- 02 Slip 5 2: a word's bytes stand as they are where the low byte comes first, and the other way round where the high byte does
abbrev pub in_order : ByteOrder → List ℕ → List ℕ
in_order LowFirst bytes = bytes
in_order HighFirst bytes = reverse bytes

-- the word whose w bytes stand at a place of a chip's
unfoldable pub chip_word_from : ByteOrder → ℕ → List ℕ → ℕ → ℕ
chip_word_from order w b at = word_from w (in_order order (take w (drop at b))) 0

-- word n of a chip's bytes
abbrev pub chip_word : ByteOrder → ℕ → List ℕ → ℕ → ℕ
chip_word order w b n = chip_word_from order w b (n * w)

-- 01 rom_image 9: of the bytes of a word, the lowest comes first
unfoldable pub bytes_of : ℕ → ℕ → List ℕ
bytes_of zero v = []
bytes_of (suc w) v = v % 256 ∷ bytes_of w (v / 256)

-- 01 rom_image 6: the pad word has the pad byte, which is handed in here, in each of its w bytes
unfoldable pub pad_word : ℕ → ℕ → ℕ
pad_word zero pad = 0
pad_word (suc w) pad = pad + 256 * pad_word w pad

-- the words f 0, f 1, .. f (n - 1) as bytes, one after the other
abbrev pub words_bytes : ℕ → (ℕ → ℕ) → ℕ → List ℕ
words_bytes w f n = joined n (λ i. bytes_of w (f i))

-- those of a table's entries
abbrev pub entries_bytes : ℕ → (ℕ → ℕ) → ℕ → List ℕ
entries_bytes w f n = words_bytes w f n

-- the bytes of a chip's word
unfoldable pub chip_bytes_of : ByteOrder → ℕ → ℕ → List ℕ
chip_bytes_of order w v = in_order order (bytes_of w v)

-- those of a chip's words, one after the other
abbrev pub chip_words_bytes : ByteOrder → ℕ → (ℕ → ℕ) → ℕ → List ℕ
chip_words_bytes order w f n = joined n (λ i. chip_bytes_of order w (f i))
