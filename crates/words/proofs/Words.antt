-- Words read from bytes, and words as bytes. Assumes nothing.
use mathlib.Core.Path.{◌≡◌, refl, ap}
use mathlib.Core.List.{List, ◌++◌}
use Prim.Native.Nat.{ℕ, zero, suc, ◌+◌, ◌*◌, ◌/◌, ◌^◌, ◌≤◌, ◌<◌}
use native.Mathlib.Nat.{zero-mul, suc-mul, mul-suc, mul-le-mul_right, le_trans, lt_of_lt_of_le}
use native.Mathlib.Numerals.{add-one}
use native.Mathlib.Omega.{arith}
use lib.ListN.{length, take, drop, get_or, length-append}
use lib.Pow.{pow-add, pow_mono}
use lib.Seq.{take_at, get_or-take, get_or-drop, drop-append-add, drop-drop}
use Rattle.lists.specs.Tab.{joined}
use Rattle.words.specs.Words.{word_from, bytes_of, pad_word, words_bytes}

-- one byte more
pub byte_more : (w v b : ℕ) → v < 2 ^ (8 * w) → b < 256 → b + 256 * v < 2 ^ (8 * suc w)
byte_more w v b h l = rw (mul-suc, pow-add) (omega arith)

-- words are of two bytes at most
pub word-short : (w v : ℕ) → w ≤ 2 → v < 2 ^ (8 * w) → v < 2 ^ 16
word-short w v h l = lt_of_lt_of_le l (pow_mono {j = 16} (omega arith))

pub word_lt : (w : ℕ) (b : List ℕ) (at : ℕ) → ((k : ℕ) → get_or b k 0 < 256) → word_from w b at < 2 ^ (8 * w)
unfolding word_from
word_lt zero b at h = omega arith
word_lt (suc w) b at h = byte_more w (word_from w b (at + 1)) (get_or b at 0) (word_lt w b (at + 1) h) (h at)

-- a word of a part of the bytes
pub word_part : (w : ℕ) (b : List ℕ) (start size at : ℕ) → at + w ≤ size → word_from w (take size (drop start b)) at ≡ word_from w b (start + at)
unfolding word_from
word_part zero b start size at h = refl
word_part (suc w) b start size at h =
    let l : at < size = omega arith in
    let next : start + (at + 1) ≡ start + at + 1 = omega arith in
    rw (get_or-take, get_or-drop, word_part w b start size (at + 1) (omega arith), next)

pub pad_lt : (w pad : ℕ) → pad < 256 → pad_word w pad < 2 ^ (8 * w)
unfolding pad_word
pad_lt zero pad h = omega arith
pad_lt (suc w) pad h = byte_more w (pad_word w pad) pad (pad_lt w pad h) h

pub bytes-length : (w v : ℕ) → length (bytes_of w v) ≡ w
unfolding bytes_of
bytes-length zero v = refl
bytes-length (suc w) v = ap suc (bytes-length w (v / 256))

-- words one after the other

pub words-length : (w : ℕ) (f : ℕ → ℕ) (n : ℕ) → length (words_bytes w f n) ≡ n * w
unfolding joined
words-length w f zero = rw zero-mul
words-length w f (suc n) = rw (length-append, words-length w f n, bytes-length, suc-mul)

-- the same words
pub words_cong : (w : ℕ) (f g : ℕ → ℕ) (n : ℕ) → ((i : ℕ) → i < n → f i ≡ g i) → words_bytes w f n ≡ words_bytes w g n
unfolding joined
words_cong w f g zero h = refl
words_cong w f g (suc n) h = rw (words_cong w f g n (λ i l. h i (omega arith)), h n (omega arith))

-- a loop that writes word i behind the first i: room for one more, before the first turn, one turn, and the end
pub words-room : (i n w l : ℕ) → i < n → n * w ≤ l → i * w + w ≤ l
words-room i n w l h k = le_trans (rw suc-mul at (mul-le-mul_right w h)) k

module _ (w : ℕ) (f : ℕ → ℕ) (old : List ℕ) where
  pub words-none : old ≡ words_bytes w f 0 ++ drop (0 * w) old
  unfolding joined
  words-none = rw zero-mul

  pub words-turn : (i x : ℕ) (now new : List ℕ) → now ≡ words_bytes w f i ++ drop (i * w) old → x ≡ f i
      → new ≡ take (i * w) now ++ bytes_of w x ++ drop (i * w + w) now → new ≡ words_bytes w f (i + 1) ++ drop ((i + 1) * w) old
  unfolding joined
  words-turn i x now new e g h =
      let l = words-length w f i in
      let d : drop (i * w + w) (words_bytes w f i ++ drop (i * w) old) ≡ drop (i * w + w) old = rw (← l, drop-append-add, drop-drop) in
      rw (h, e, g, take_at (words_bytes w f i) (drop (i * w) old) (i * w) l, d, add-one, suc-mul)

  pub words-done : (i n : ℕ) (now : List ℕ) → i ≡ n → now ≡ words_bytes w f i ++ drop (i * w) old → now ≡ words_bytes w f n ++ drop (n * w) old
  words-done i n now e h = rw e at h
