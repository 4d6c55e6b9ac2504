-- What is read of a source, by some bits of an address. Assumes nothing.
use mathlib.Core.Path.{◌≡◌, refl, sym, ◌∙◌, ap}
use mathlib.Core.Bool.{Bool, true, false, cond, not, ◌&&◌, ◌||◌}
use Prim.Native.Nat.{ℕ, ◌+◌, ◌-◌, ◌*◌, ◌%◌, ◌^◌, ◌≤◌, ◌<◌}
use native.Mathlib.Nat.{mod-eq_of_lt}
use native.Mathlib.Omega.{arith}
use lib.Bits.{bit_and, and_le_l, and_le_r, and_mask}
use lib.Dec.{ltb, leb}
use borrow.Author.Tests.{lt-ltb, le-ltb, ltb-true, ltb-false, leb-true, not-true}
use Rattle.lists.proofs.Bools.{both}
use Rattle.lists.proofs.Loops.{zero_one}
use Rattle.lists.proofs.Shifts.{shifted_one}
use Rattle.words.specs.Words.{chip_word_from}
use Rattle.table_fill.specs.Design.Rows.{ReadsBy, Pads}
use Rattle.table_fill.specs.declared.sources.Source.{Source}

-- a source that is mirrored, and whose count has a bit
pub neither : (m : Bool) (bits : ℕ) → not m || ltb 31 bits ≡ false → (m ≡ true) × (bits < 32)
neither true bits e = (refl, omega (arith, ltb-false 31 bits e))
neither false bits e = absurd (zero_one cc)

-- a count that is its lowest bit
pub one_bit : (count bits : ℕ) → bits < 32 → count ≡ 1 * 2 ^ bits % 2 ^ 32 → count ≡ 2 ^ bits
one_bit count bits l e = e ∙ shifted_one bits 32 (omega arith)

module _ (s : Source) where
  -- all bits
  pub reads_all : ReadsBy s (2 ^ 32 - 1)
  reads_all order images w pad n l h =
      let all : bit_and n (2 ^ 32 - 1) ≡ n = and_mask n 32 ∙ mod-eq_of_lt l in
      let inside : n < s.count = rw all at h in
      rw (lt-ltb n s.count inside, all)

  -- the low bits, where the words are read again after a power of two of them
  pub reads_low : (k : ℕ) → s.mirrored ≡ true → s.count ≡ 2 ^ k → ReadsBy s (s.count - 1)
  reads_low k m e order images w pad n l h = by (ltb n s.count) refl
    where
      low : bit_and n (s.count - 1) ≡ n % s.count
      low = ap (λ (x : ℕ). bit_and n (x - 1)) e ∙ and_mask n k ∙ ap (λ (x : ℕ). n % x) (sym e)

      by : (t : Bool) → ltb n s.count ≡ t
          → cond t (chip_word_from order w images (s.start + n * w)) (cond s.mirrored (chip_word_from order w images (s.start + n % s.count * w)) pad)
          ≡ chip_word_from order w images (s.start + bit_and n (s.count - 1) * w)
      by true q = let same : n % s.count ≡ n = mod-eq_of_lt (ltb-true n s.count q) in rw (low, same)
      by false q = rw (low, m)

  -- bits of an address make no more than it, and no more than the mask
  pub all_stand : (mask highest : ℕ) → ltb highest s.count || ltb mask s.count ≡ true → (n : ℕ) → n ≤ highest → bit_and n mask < s.count
  all_stand mask highest e n l = by (ltb highest s.count) refl e
    where
      by : (t : Bool) → ltb highest s.count ≡ t → t || ltb mask s.count ≡ true → bit_and n mask < s.count
      by true q o = omega (arith, and_le_l n mask, ltb-true highest s.count q)
      by false q o = omega (arith, and_le_r n mask, ltb-true mask s.count o)

  pub none_stand : (lowest : ℕ) → not s.mirrored && leb s.count lowest ≡ true → Pads s lowest
  none_stand lowest e order images w pad n l =
      let (plain, past) = both (not s.mirrored) (leb s.count lowest) e in
      rw (le-ltb n s.count (omega (arith, leb-true s.count lowest past)), not-true s.mirrored plain)
