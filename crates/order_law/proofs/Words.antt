-- The definitions keep the laws of words and of their bytes, and nothing else does. Assumes nothing.
use mathlib.Core.Path.{◌≡◌, refl, sym, ◌∙◌, ap}
use mathlib.Core.List.{List, [], ◌∷◌, reverse}
use Prim.Native.Nat.{ℕ, zero, suc, ◌+◌, ◌*◌, ◌/◌, ◌%◌, ◌≤◌, ◌<◌}
use native.Mathlib.Numerals.{add-one}
use native.Mathlib.Omega.{arith}
use lib.ListN.{length, take, drop, get_or}
use lib.Seq.{drop-cons}
use Rattle.words.specs.Words.{word_from, bytes_of, in_order, chip_word_from, chip_word, chip_bytes_of}
use Rattle.words.specs.declared.ByteOrder.{ByteOrder}
use Rattle.words.specs.declared.ByteOrder.TheVariants.{LowFirst, HighFirst}
use Rattle.order_law.specs.Words.{WordLaw, BytesLaw, Kept, Alone}

-- the word of bytes that are written out

of_one : (order : ByteOrder) (x : ℕ) → word_from 1 (in_order order (x ∷ [])) 0 ≡ x
unfolding word_from
of_one LowFirst x = omega arith
of_one HighFirst x = omega arith

of_two_low : (x y : ℕ) → word_from 2 (x ∷ y ∷ []) 0 ≡ x + 256 * y
unfolding word_from
of_two_low x y = omega arith

of_two_high : (x y : ℕ) → word_from 2 (reverse (x ∷ y ∷ [])) 0 ≡ 256 * x + y
unfolding word_from
of_two_high x y = omega arith

-- the bytes of a word are in the list

byte-at : (b : List ℕ) (n : ℕ) → n < length b → take 1 (drop (n * 1) b) ≡ get_or b n 0 ∷ []
byte-at b n h =
    let at : n * 1 ≡ n = omega arith in
    rw (at, drop-cons b n 0 h)

bytes-at : (b : List ℕ) (n : ℕ) → 2 * n + 1 < length b → take 2 (drop (n * 2) b) ≡ get_or b (2 * n) 0 ∷ get_or b (2 * n + 1) 0 ∷ []
bytes-at b n h =
    let at : n * 2 ≡ 2 * n = omega arith in
    rw (at, drop-cons b (2 * n) 0 (omega arith), drop-cons b (suc (2 * n)) 0 (omega arith), add-one)

word-one : (order : ByteOrder) (b : List ℕ) (n : ℕ) → n < length b → chip_word order 1 b n ≡ get_or b n 0
unfolding chip_word_from
word-one order b n h = ap (λ (l : List ℕ). word_from 1 (in_order order l) 0) (byte-at b n h) ∙ of_one order (get_or b n 0)

word_low : (b : List ℕ) (n : ℕ) → 2 * n + 1 < length b → chip_word LowFirst 2 b n ≡ get_or b (2 * n) 0 + 256 * get_or b (2 * n + 1) 0
unfolding chip_word_from
word_low b n h = ap (λ (l : List ℕ). word_from 2 l 0) (bytes-at b n h) ∙ of_two_low (get_or b (2 * n) 0) (get_or b (2 * n + 1) 0)

word-high : (b : List ℕ) (n : ℕ) → 2 * n + 1 < length b → chip_word HighFirst 2 b n ≡ 256 * get_or b (2 * n) 0 + get_or b (2 * n + 1) 0
unfolding chip_word_from
word-high b n h = ap (λ (l : List ℕ). word_from 2 (reverse l) 0) (bytes-at b n h) ∙ of_two_high (get_or b (2 * n) 0) (get_or b (2 * n + 1) 0)

-- the bytes of a word

bytes_one : (order : ByteOrder) (v : ℕ) → chip_bytes_of order 1 v ≡ v % 256 ∷ []
unfolding chip_bytes_of bytes_of
bytes_one LowFirst v = refl
bytes_one HighFirst v = refl

bytes_low : (v : ℕ) → chip_bytes_of LowFirst 2 v ≡ v % 256 ∷ v / 256 % 256 ∷ []
unfolding chip_bytes_of bytes_of
bytes_low v = refl

bytes_high : (v : ℕ) → chip_bytes_of HighFirst 2 v ≡ v / 256 % 256 ∷ v % 256 ∷ []
unfolding chip_bytes_of bytes_of
bytes_high v = refl

pub words-kept : Kept
words-kept = record {
  word = record { one = word-one; low = word_low; high = word-high };
  bytes = record { one = bytes_one; low = bytes_low; high = bytes_high };
}

-- what keeps them too says the same, for words of one byte and of two

word_alone : (other : ByteOrder → ℕ → List ℕ → ℕ → ℕ) → WordLaw other → (order : ByteOrder) (w : ℕ) (b : List ℕ) (n : ℕ) → 1 ≤ w → w ≤ 2
    → n * w + w ≤ length b → other order w b n ≡ chip_word order w b n
word_alone other law order zero b n p q h = absurd (omega arith)
word_alone other law order (suc zero) b n p q h = law.one order b n (omega arith) ∙ sym (word-one order b n (omega arith))
word_alone other law LowFirst (suc (suc zero)) b n p q h = law.low b n (omega arith) ∙ sym (word_low b n (omega arith))
word_alone other law HighFirst (suc (suc zero)) b n p q h = law.high b n (omega arith) ∙ sym (word-high b n (omega arith))
word_alone other law order (suc (suc (suc w))) b n p q h = absurd (omega arith)

bytes_alone : (other : ByteOrder → ℕ → ℕ → List ℕ) → BytesLaw other → (order : ByteOrder) (w v : ℕ) → 1 ≤ w → w ≤ 2
    → other order w v ≡ chip_bytes_of order w v
bytes_alone other law order zero v p q = absurd (omega arith)
bytes_alone other law order (suc zero) v p q = law.one order v ∙ sym (bytes_one order v)
bytes_alone other law LowFirst (suc (suc zero)) v p q = law.low v ∙ sym (bytes_low v)
bytes_alone other law HighFirst (suc (suc zero)) v p q = law.high v ∙ sym (bytes_high v)
bytes_alone other law order (suc (suc (suc w))) v p q = absurd (omega arith)

pub words_alone : Alone
words_alone = record { word = word_alone; bytes = bytes_alone }
