-- A word that stands low byte first as another one stands in an order. Assumes nothing.
use mathlib.Core.Path.{◌≡◌, refl, sym, ◌∙◌, ap}
use mathlib.Core.Bool.{Bool, true, false}
use mathlib.Core.List.{List, [], append-nil}
use Prim.Native.Nat.{ℕ, zero, suc, ◌*◌, ◌/◌, ◌^◌, ◌≤◌, ◌<◌}
use native.Mathlib.Omega.{arith}
use lib.Dec.{eqb}
use lib.ListN.{get_or}
use borrow.Author.Tests.{eqb-true, eqb-false, eq-eqb, ne_eqb}
use Rattle.lists.proofs.Tab.{joined_cong}
use Rattle.words.specs.Words.{word_from, bytes_of, words_bytes, in_order, chip_bytes_of, chip_words_bytes}
use Rattle.words.specs.declared.ByteOrder.{ByteOrder}
use Rattle.words.specs.declared.ByteOrder.TheVariants.{LowFirst, HighFirst}
use Rattle.words.proofs.Words.{bytes-length}
use Rattle.words.proofs.Back.{word_in}
use Rattle.words.proofs.Chip.{in_order_lt, in_order-length, in_order_twice, bytes_back}

-- the word with the same bytes in an order
unfoldable pub turned_word : ByteOrder → ℕ → ℕ → ℕ
turned_word order w v = word_from w (in_order order (bytes_of w v)) 0

bytes_lt : (w v k : ℕ) → get_or (bytes_of w v) k 0 < 256
unfolding bytes_of
bytes_lt zero v k = omega arith
bytes_lt (suc w) v zero = omega arith
bytes_lt (suc w) v (suc k) = bytes_lt w (v / 256) k

pub turned_bytes : (order : ByteOrder) (w v : ℕ) → bytes_of w (turned_word order w v) ≡ chip_bytes_of order w v
unfolding turned_word chip_bytes_of
turned_bytes order w v =
    bytes_back w (in_order order (bytes_of w v)) (in_order-length order (bytes_of w v) ∙ bytes-length w v) (in_order_lt order (bytes_of w v) (bytes_lt w v))

pub turned_words : (order : ByteOrder) (w : ℕ) (f : ℕ → ℕ) (n : ℕ) → words_bytes w (λ i. turned_word order w (f i)) n ≡ chip_words_bytes order w f n
turned_words order w f n = joined_cong n _ _ (λ i l. turned_bytes order w (f i))

-- a word is its bytes
word_back : (w v : ℕ) → v < 2 ^ (8 * w) → word_from w (bytes_of w v) 0 ≡ v
word_back w v h = ap (λ (b : List ℕ). word_from w b 0) (sym (append-nil (bytes_of w v))) ∙ word_in w [] [] v 0 refl h

pub turned_low : (w v : ℕ) → v < 2 ^ (8 * w) → turned_word LowFirst w v ≡ v
unfolding turned_word
turned_low w v h = word_back w v h

-- words that differ still do
turned_twice : (order : ByteOrder) (w v : ℕ) → v < 2 ^ (8 * w) → turned_word order w (turned_word order w v) ≡ v
unfolding turned_word chip_bytes_of
turned_twice order w v h =
    ap (λ (b : List ℕ). word_from w (in_order order b) 0) (turned_bytes order w v)
    ∙ ap (λ (b : List ℕ). word_from w b 0) (in_order_twice order (bytes_of w v)) ∙ word_back w v h

pub turned_eqb : (order : ByteOrder) (w x y : ℕ) → x < 2 ^ (8 * w) → y < 2 ^ (8 * w) → eqb (turned_word order w x) (turned_word order w y) ≡ eqb x y
turned_eqb order w x y h g = by (eqb x y) refl
  where
    by : (t : Bool) → eqb x y ≡ t → eqb (turned_word order w x) (turned_word order w y) ≡ t
    by true e = eq-eqb _ _ (ap (turned_word order w) (eqb-true x y e))
    by false e =
        ne_eqb _ _ (λ q. eqb-false x y e (sym (turned_twice order w x h) ∙ ap (turned_word order w) q ∙ turned_twice order w y g))

-- no bits have no order
pub turned_none : (order : ByteOrder) (w : ℕ) → w ≤ 2 → turned_word order w 0 ≡ 0
unfolding turned_word word_from bytes_of
turned_none order zero h = refl
turned_none LowFirst (suc zero) h = refl
turned_none HighFirst (suc zero) h = refl
turned_none LowFirst (suc (suc zero)) h = refl
turned_none HighFirst (suc (suc zero)) h = refl
turned_none order (suc (suc (suc w))) h = absurd (omega arith)

-- a word of no byte
pub turned_empty : (order : ByteOrder) (v : ℕ) → turned_word order 0 v ≡ 0
unfolding turned_word word_from
turned_empty order v = refl
