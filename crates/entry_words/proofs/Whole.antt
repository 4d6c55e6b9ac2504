-- What it means that no entry disagrees and no word is missing; that an entry may be held against the first of all entries for its
-- word, not only against one before it. Assumes nothing.
use mathlib.Core.Path.{◌≡◌, refl, sym, ◌∙◌, ap}
use mathlib.Core.Bool.{Bool, true, false, cond, not, ◌&&◌}
use Prim.Native.Nat.{ℕ, ◌≤◌, ◌<◌}
use native.Mathlib.Omega.{arith}
use lib.Dec.{ltb, eqb}
use lib.ListN.{replicate, length-replicate, get_or-replicate}
use borrow.Author.Tests.{ltb-true, ltb-false, eq-eqb, not-false}
use Rattle.lists.proofs.Tab.{tab_is}
use Rattle.entry_words.specs.Design.Kept.{first_at, told, marks_after, disagrees, first_bad, first_missing, outcome_of}
use Rattle.entry_words.specs.declared.Outcome.TheVariants.{Whole, Disagrees, Missing}
use Rattle.lists.proofs.First.{first-before, first_one, first-stays}

module _ (t v : ℕ → ℕ) (words n : ℕ) where
  abbrev for_same : ℕ → ℕ → Bool
  for_same i k = eqb (t k) (t i)

  -- the first entry for a word agrees with itself
  first_itself : (i : ℕ) → i < n → i ≤ first_at t (t i) i → first_at t (t i) n ≡ i
  first_itself i l h =
      first_one (for_same i) n i (record {
        within = omega arith;
        passes = λ q. eq-eqb (t i) (t i) refl;
        before = λ k q. first-before (for_same i) i k (omega arith);
      })

  either_first : (i : ℕ) → i < n → (b : Bool) → told t (t i) i ≡ b
      → b && not (eqb (v i) (v (first_at t (t i) i))) ≡ not (eqb (v i) (v (first_at t (t i) n)))
  either_first i l true e =
      let h = ltb-true (first_at t (t i) i) i e in
      ap (λ (x : ℕ). not (eqb (v i) (v x))) (sym (first-stays (for_same i) i n h (omega arith)))
  either_first i l false e =
      sym (ap (λ (x : ℕ). not (eqb (v i) (v x))) (first_itself i l (ltb-false (first_at t (t i) i) i e)) ∙ rw (eq-eqb (v i) (v i) refl))

  pub disagrees-first : (i : ℕ) → i < n → disagrees t v words i ≡ ltb (t i) words && not (eqb (v i) (v (first_at t (t i) n)))
  disagrees-first i l = ap (λ (b : Bool). ltb (t i) words && b) (either_first i l (told t (t i) i) refl)

  whole-case : (b c : Bool) (f g : ℕ) → cond b (Disagrees f) (cond c (Missing g) Whole) ≡ Whole → c ≡ false
  whole-case true c f g e = cc
  whole-case false true f g e = cc
  whole-case false false f g e = refl

  module _ (e : outcome_of t v words n ≡ Whole) where
    -- every word has a value
    pub whole-told : (f : ℕ) → f < words → told t f n ≡ true
    unfolding outcome_of
    whole-told f l =
        let bad = first_bad t v words n in
        let missing = first_missing t words n in
        let h = ltb-false missing words (whole-case (ltb bad n) (ltb missing words) (t bad) missing e) in
        not-false (told t f n) (first-before (λ g. not (told t g n)) words f (omega arith))

    pub whole-marks : marks_after t words n ≡ replicate words 1
    whole-marks =
        tab_is _ (replicate words 1) 0 words (length-replicate {A = ℕ} words 1) (λ f l. rw (whole-told f l, get_or-replicate {A = ℕ} words f 1 0 l))
