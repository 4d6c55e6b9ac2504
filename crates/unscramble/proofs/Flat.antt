-- The words counted through all ROMs are the ROMs' words, one to one. Assumes nothing.
use mathlib.Core.Path.{◌≡◌, refl, sym, ◌∙◌, ap}
use mathlib.Core.Bool.{Bool, true, false, cond}
use Prim.Native.Nat.{ℕ, zero, suc, ◌+◌, ◌-◌, ◌≤◌, ◌<◌, min}
use native.Mathlib.Nat.{le_of_suc-le-suc, eq-or-lt_of_le}
use native.Mathlib.Decide.{dec_lt}
use native.Mathlib.Omega.{arith}
use mathlib.Core.Logic.{inl, inr}
use borrow.Author.Tests.{le-leb, lt-leb}
use Rattle.lists.specs.Each.{tally}
use Rattle.lists.proofs.Loops.{zero_one}
use Rattle.stored_slot.specs.Words.{rom_words, words_before, all_words}
use Rattle.unscramble.specs.Design.Place.{word_rom, word_address}
use Rattle.stored_slot.specs.declared.stored.StoredSlot.{StoredSlot}

-- a test that passes below r and not from there on
tally-count : (n r x : ℕ) (b : Bool) → x ≡ min n r → (n < r → b ≡ true) → (r ≤ n → b ≡ false) → x + cond b 1 0 ≡ min (suc n) r
tally-count n r x true e h g = elim (dec_lt n r) [
  | yes l ↦ omega arith
  | no l ↦ let q = g (omega arith) in absurd (zero_one cc)
]
tally-count n r x false e h g = elim (dec_lt n r) [
  | yes l ↦ let q = h l in absurd (zero_one cc)
  | no l ↦ omega arith
]

tally-below : (p : ℕ → Bool) (r n : ℕ) → ((k : ℕ) → k < r → p k ≡ true) → ((k : ℕ) → r ≤ k → p k ≡ false) → tally n p ≡ min n r
unfolding tally
tally-below p r zero h g = omega arith
tally-below p r (suc n) h g = tally-count n r (tally n p) (p n) (tally-below p r n h g) (h n) (g n)

-- word f of all is word n of a ROM
pub record Flat (s : StoredSlot) (f rom n : ℕ) : Type 0 where
  pub there : rom < s.num_roms
  pub counted : n < rom_words s rom
  pub flat : f ≡ words_before s rom + n

pub flat_of : (s : StoredSlot) (rom n : ℕ) → rom < s.num_roms → n < rom_words s rom → Flat s (words_before s rom + n) rom n
flat_of s rom n l h = record { there = l; counted = h; flat = refl }

module _ (s : StoredSlot) where
  pub before_le : (m n : ℕ) → m ≤ n → words_before s m ≤ words_before s n
  unfolding words_before
  before_le m zero l = let e : m ≡ 0 = omega arith in rw e (omega arith)
  before_le m (suc n) l =
      elim (eq-or-lt_of_le l) [ inl e ↦ rw e (omega arith) | inr h ↦ omega (arith, before_le m n (le_of_suc-le-suc h)) ]

  pub before_next : (rom : ℕ) → words_before s (suc rom) ≡ words_before s rom + rom_words s rom
  unfolding words_before
  before_next rom = refl

  module _ (f rom n : ℕ) (w : Flat s f rom n) where
    before-end : f < words_before s (suc rom)
    before-end = let e = before_next rom in let c = w.counted in let g = w.flat in omega arith

    pub flat_counted : f < all_words s
    flat_counted = let l = before_le (suc rom) s.num_roms w.there in let h = before-end in omega arith

    pub flat_rom : word_rom s f ≡ rom
    flat_rom =
        let h = w.there in
        let g = w.flat in
        let e = before-end in
        let m = tally-below _ rom s.num_roms
        (λ k l. le-leb (words_before s (suc k)) f (omega (arith, before_le (suc k) rom l)))
        (λ k l. lt-leb (words_before s (suc k)) f (omega (arith, before_le (suc rom) (suc k) (omega arith)))) in
        omega arith

    pub flat_address : word_address s f ≡ n
    flat_address = let g = w.flat in ap (λ (r : ℕ). f - words_before s r) flat_rom ∙ omega arith

  -- a word is of one ROM only
  pub flat_one : (f rom rom' n n' : ℕ) → Flat s f rom n → Flat s f rom' n' → (rom ≡ rom') × (n ≡ n')
  flat_one f rom rom' n n' w x =
      (sym (flat_rom f rom n w) ∙ flat_rom f rom' n' x, sym (flat_address f rom n w) ∙ flat_address f rom' n' x)
