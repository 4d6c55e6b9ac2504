-- Recovered bytes, as they are in either byte order: how many, and their pairs. Assumes nothing.
use mathlib.Core.Path.{◌≡◌, refl, sym, ◌∙◌, ap}
use mathlib.Core.List.{List, [], ◌∷◌, ◌++◌}
use Prim.Native.Nat.{ℕ, zero, suc, ◌+◌, ◌*◌}
use native.Mathlib.Nat.{zero-mul, suc-mul, add-mul}
use native.Mathlib.Omega.{arith}
use lib.ListN.{length, length-append}
use Rattle.lists.specs.Tab.{joined}
use Rattle.lists.proofs.Tab.{joined_cong}
use Rattle.words.specs.Words.{bytes_of, chip_bytes_of, chip_words_bytes}
use Rattle.words.specs.declared.ByteOrder.{ByteOrder}
use Rattle.words.specs.declared.ByteOrder.TheVariants.{LowFirst, HighFirst}
use Rattle.words.proofs.Chip.{chip_bytes-length}
use Rattle.slot.specs.declared.description.ChipSetType.{ChipSetType}
use Rattle.stored_slot.specs.Stored.{word_bytes}
use Rattle.stored_slot.specs.Words.{rom_words, words_before, all_words}
use Rattle.stored_slot.specs.declared.stored.StoredSlot.{StoredSlot}
use Rattle.unscramble.specs.Recovered.{kept_value, rom_bytes, recovered}
use Rattle.order_law.specs.Law.{swapped}

-- whole pairs are exchanged by themselves, whatever stands behind them
swapped-append : (n : ℕ) (l r : List ℕ) → length l ≡ n * 2 → swapped (l ++ r) ≡ swapped l ++ swapped r
unfolding swapped
swapped-append n [] r e = refl
swapped-append n (x ∷ []) r e = absurd (omega arith)
swapped-append zero (x ∷ y ∷ l) r e = absurd (omega arith)
swapped-append (suc n) (x ∷ y ∷ l) r e = ap (λ (t : List ℕ). y ∷ x ∷ t) (swapped-append n l r (omega arith))

-- lists one after the other, the first of them of `pairs` pairs
swapped-joined : (f g : ℕ → List ℕ) (pairs : ℕ → ℕ) → ((n : ℕ) → length (joined n f) ≡ pairs n * 2) → ((k : ℕ) → g k ≡ swapped (f k))
    → (n : ℕ) → joined n g ≡ swapped (joined n f)
unfolding joined swapped
swapped-joined f g pairs long each zero = refl
swapped-joined f g pairs long each (suc n) =
    rw (swapped-joined f g pairs long each n, each n) (sym (swapped-append (pairs n) (joined n f) (f n) (long n)))

-- the words of a ROM

words_long : (order : ByteOrder) (w : ℕ) (f : ℕ → ℕ) (n : ℕ) → length (chip_words_bytes order w f n) ≡ n * w
unfolding joined
words_long order w f zero = rw zero-mul
words_long order w f (suc n) = rw (length-append, words_long order w f n, chip_bytes-length, suc-mul)

word_alike : (w v : ℕ) → w ≡ 1 → chip_bytes_of HighFirst w v ≡ chip_bytes_of LowFirst w v
unfolding chip_bytes_of bytes_of
word_alike w v e = rw e refl

word-swapped : (w v : ℕ) → w ≡ 2 → chip_bytes_of HighFirst w v ≡ swapped (chip_bytes_of LowFirst w v)
unfolding chip_bytes_of bytes_of swapped
word-swapped w v e = rw e refl

words-swapped : (w : ℕ) (f : ℕ → ℕ) (n : ℕ) → w ≡ 2 → chip_words_bytes HighFirst w f n ≡ swapped (chip_words_bytes LowFirst w f n)
words-swapped w f n e =
    swapped-joined (λ i. chip_bytes_of LowFirst w (f i)) (λ i. chip_bytes_of HighFirst w (f i)) (λ m. m)
    (λ m. words_long LowFirst w f m ∙ ap (λ (x : ℕ). m * x) e) (λ i. word-swapped w (f i) e) n

-- the words of all ROMs

module _ (s : StoredSlot) (set : ChipSetType) (stored : List ℕ) where
  roms-long : (order : ByteOrder) (n : ℕ) → length (joined n (rom_bytes order s set stored)) ≡ words_before s n * word_bytes s
  unfolding joined words_before
  roms-long order zero = rw zero-mul
  roms-long order (suc n) =
      length-append (joined n (rom_bytes order s set stored)) (rom_bytes order s set stored n)
      ∙ ap (λ (x : ℕ). x + length (rom_bytes order s set stored n)) (roms-long order n)
      ∙ ap (λ (x : ℕ). words_before s n * word_bytes s + x) (words_long order (word_bytes s) (kept_value s set stored n) (rom_words s n))
      ∙ sym (add-mul (words_before s n) (rom_words s n) (word_bytes s))

  pub recovered-long : word_bytes s ≡ 2 → length (recovered LowFirst s set stored) ≡ 2 * all_words s
  unfolding recovered
  recovered-long e =
      let twice : all_words s * 2 ≡ 2 * all_words s = omega arith in
      roms-long LowFirst s.num_roms ∙ ap (λ (x : ℕ). all_words s * x) e ∙ twice

  pub recovered_alike : word_bytes s ≡ 1 → recovered HighFirst s set stored ≡ recovered LowFirst s set stored
  unfolding recovered
  recovered_alike e =
      joined_cong s.num_roms _ _ (λ rom l. joined_cong (rom_words s rom) _ _ (λ i h. word_alike (word_bytes s) (kept_value s set stored rom i) e))

  pub recovered-swapped : word_bytes s ≡ 2 → recovered HighFirst s set stored ≡ swapped (recovered LowFirst s set stored)
  unfolding recovered
  recovered-swapped e =
      swapped-joined (rom_bytes LowFirst s set stored) (rom_bytes HighFirst s set stored) (words_before s)
      (λ n. roms-long LowFirst n ∙ ap (λ (x : ℕ). words_before s n * x) e)
      (λ rom. words-swapped (word_bytes s) (kept_value s set stored rom) (rom_words s rom) e) s.num_roms
