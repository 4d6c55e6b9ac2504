-- Bytes with those of each pair exchanged, and the words that are read from them. Assumes nothing.
use mathlib.Core.Path.{◌≡◌, refl, ap}
use mathlib.Core.List.{List, [], ◌∷◌, reverse}
use Prim.Native.Nat.{ℕ, zero, suc, ◌+◌, ◌*◌, ◌≤◌}
use native.Mathlib.Omega.{arith}
use lib.ListN.{length, take, drop}
use Rattle.words.specs.Words.{word_from, chip_word_from, chip_word}
use Rattle.words.specs.declared.ByteOrder.TheVariants.{LowFirst, HighFirst}
use Rattle.order_law.specs.Law.{swapped}

pub swapped-length : (l : List ℕ) → length (swapped l) ≡ length l
unfolding swapped
swapped-length [] = refl
swapped-length (x ∷ []) = refl
swapped-length (x ∷ y ∷ l) = ap (λ (n : ℕ). suc (suc n)) (swapped-length l)

-- a byte alone is the same from either end
byte_turned : (l : List ℕ) → reverse (take 1 l) ≡ take 1 l
byte_turned [] = refl
byte_turned (x ∷ l) = refl

pub turned_word : (w : ℕ) (b : List ℕ) (n : ℕ) → w ≡ 1 → chip_word HighFirst w b n ≡ chip_word LowFirst w b n
unfolding chip_word_from
turned_word w b n e = rw e (ap (λ (l : List ℕ). word_from 1 l 0) (byte_turned (drop (n * 1) b)))

-- a pair that is exchanged is one from its other end
pair_turned : (n : ℕ) (l : List ℕ) → n * 2 + 2 ≤ length l → reverse (take 2 (drop (n * 2) l)) ≡ take 2 (drop (n * 2) (swapped l))
unfolding swapped
pair_turned n [] h = absurd (omega arith)
pair_turned n (x ∷ []) h = absurd (omega arith)
pair_turned zero (x ∷ y ∷ l) h = refl
pair_turned (suc n) (x ∷ y ∷ l) h =
    let at : suc n * 2 ≡ suc (suc (n * 2)) = omega arith in
    rw at (pair_turned n l (omega arith))

pub swapped-word : (w : ℕ) (b : List ℕ) (n : ℕ) → w ≡ 2 → n * w + w ≤ length b → chip_word HighFirst w b n ≡ chip_word LowFirst w (swapped b) n
unfolding chip_word_from
swapped-word w b n e h = rw e (ap (λ (l : List ℕ). word_from 2 l 0) (pair_turned n b (rw e at h)))
