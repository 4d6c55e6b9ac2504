-- Words written as bytes read back as they were. Assumes nothing.
use mathlib.Core.Path.{◌≡◌, refl}
use mathlib.Core.List.{List, [], ◌∷◌, ◌++◌, append_assoc}
use mathlib.Core.Logic.{inl, inr}
use Prim.Native.Nat.{ℕ, zero, suc, ◌+◌, ◌*◌, ◌/◌, ◌%◌, ◌^◌, ◌<◌}
use native.Mathlib.Nat.{mul-suc, le_of_suc-le-suc, eq-or-lt_of_le}
use native.Mathlib.Omega.{arith}
use lib.ListN.{length, replicate, length-append}
use lib.Pow.{pow-add}
use lib.Seq.{get_or_at, append_snoc}
use Rattle.lists.specs.Tab.{joined}
use Rattle.words.specs.Words.{word_from, word, bytes_of, pad_word, words_bytes}
use Rattle.words.proofs.Words.{words-length}

byte_less : (w v : ℕ) → v < 2 ^ (8 * suc w) → v / 256 < 2 ^ (8 * w)
byte_less w v h = let j = rw (mul-suc, pow-add) at h in omega arith

-- the bytes of a word, anywhere in a list
pub word_in : (w : ℕ) (front rest : List ℕ) (v at : ℕ) → length front ≡ at → v < 2 ^ (8 * w) → word_from w (front ++ (bytes_of w v ++ rest)) at ≡ v
unfolding word_from bytes_of
word_in zero front rest v at l h = omega arith
word_in (suc w) front rest v at l h =
    let next : length (front ++ (v % 256 ∷ [])) ≡ at + 1 = simp length-append (omega arith) in
    let ih = rw append_snoc at (word_in w (front ++ (v % 256 ∷ [])) rest (v / 256) (at + 1) next (byte_less w v h)) in
    rw (get_or_at front (v % 256) (bytes_of w (v / 256) ++ rest) 0 at l, ih) (omega arith)

-- a word of those written one after the other
pub word_of-words : (w : ℕ) (f : ℕ → ℕ) (n : ℕ) (rest : List ℕ) (i : ℕ) → i < n → f i < 2 ^ (8 * w) → word w (words_bytes w f n ++ rest) i ≡ f i
unfolding joined
word_of-words w f zero rest i l h = absurd (omega arith)
word_of-words w f (suc n) rest i l h =
    rw append_assoc
    (elim (eq-or-lt_of_le (le_of_suc-le-suc l)) [
      | inl e ↦ rw e (word_in w (words_bytes w f n) rest (f n) (n * w) (words-length w f n) (rw e at h))
      | inr q ↦ word_of-words w f n (bytes_of w (f n) ++ rest) i q h
    ])

-- the pad word has the pad in each byte
pub pad_bytes : (w pad : ℕ) → pad < 256 → bytes_of w (pad_word w pad) ≡ replicate w pad
unfolding bytes_of pad_word
pad_bytes zero pad h = refl
pad_bytes (suc w) pad h =
    let low : (pad + 256 * pad_word w pad) % 256 ≡ pad = omega arith in
    let high : (pad + 256 * pad_word w pad) / 256 ≡ pad_word w pad = omega arith in
    rw (low, high, pad_bytes w pad h)
