-- What entries come to depends on what they are for and say, and on nothing else; how long the buffers are. Assumes nothing.
use mathlib.Core.Path.{◌≡◌, refl, ◌∙◌, ap}
use mathlib.Core.Bool.{Bool, true, false, cond, not, ◌&&◌}
use Prim.Native.Nat.{ℕ, ◌*◌, ◌≤◌, ◌<◌}
use native.Mathlib.Omega.{arith}
use lib.Dec.{ltb, eqb}
use lib.ListN.{length}
use borrow.Author.Tests.{ltb-true}
use Rattle.lists.proofs.Tab.{tab_cong, tab-length}
use Rattle.words.proofs.Words.{words_cong, words-length}
use Rattle.entry_words.specs.Design.Kept.{first_at, told, mark_after, value_after, marks_after, output_after, disagrees, first_bad, first_missing, outcome_of}
use Rattle.entry_words.specs.declared.Outcome.{Outcome}
use Rattle.entry_words.specs.declared.Outcome.TheVariants.{Whole, Disagrees, Missing}
use Rattle.lists.proofs.First.{first_cong}

pub marks-length : (t : ℕ → ℕ) (words m : ℕ) → length (marks_after t words m) ≡ words
marks-length t words m = tab-length (mark_after t m) words

pub output-length : (w : ℕ) (t v : ℕ → ℕ) (words m : ℕ) → length (output_after w t v words m) ≡ words * w
output-length w t v words m = words-length w (value_after t v m) words

-- entries that are for the same words
module _ (t u : ℕ → ℕ) (n : ℕ) (for : (i : ℕ) → i < n → t i ≡ u i) where
  at_cong : (f m : ℕ) → m ≤ n → first_at t f m ≡ first_at u f m
  at_cong f m l = first_cong m _ _ (λ i h. ap (λ (x : ℕ). eqb x f) (for i (omega arith)))

  missing_cong : (words : ℕ) → first_missing t words n ≡ first_missing u words n
  missing_cong words = first_cong words _ _ (λ f h. ap (λ (x : ℕ). not (ltb x n)) (at_cong f n (omega arith)))

  pub marks_cong : (words : ℕ) → marks_after t words n ≡ marks_after u words n
  marks_cong words = tab_cong _ _ words (λ f h. ap (λ (x : ℕ). cond (ltb x n) 1 0) (at_cong f n (omega arith)))

  -- and say the same
  module _ (v z : ℕ → ℕ) (says : (i : ℕ) → i < n → v i ≡ z i) where
    value_same : (x : ℕ) (b : Bool) → ltb x n ≡ b → cond b (v x) 0 ≡ cond b (z x) 0
    value_same x true e = says x (ltb-true x n e)
    value_same x false e = refl

    value_cong : (f : ℕ) → value_after t v n f ≡ value_after u z n f
    value_cong f =
        ap (λ (x : ℕ). cond (ltb x n) (v x) 0) (at_cong f n (omega arith)) ∙ value_same (first_at u f n) (ltb (first_at u f n) n) refl

    pub output_cong : (w words : ℕ) → output_after w t v words n ≡ output_after w u z words n
    output_cong w words = words_cong w _ _ words (λ f h. value_cong f)

  -- and of which the same two say the same
  module _ (v z : ℕ → ℕ) (alike : (i j : ℕ) → i < n → j < n → eqb (v i) (v j) ≡ eqb (z i) (z j)) where
    test_same : (i x : ℕ) (b : Bool) → ltb x i ≡ b → i < n → b && not (eqb (v i) (v x)) ≡ b && not (eqb (z i) (z x))
    test_same i x true e l = let h = ltb-true x i e in ap not (alike i x l (omega arith))
    test_same i x false e l = refl

    disagrees_cong : (words i : ℕ) → i < n → disagrees t v words i ≡ disagrees u z words i
    disagrees_cong words i l =
        ap (λ (f : ℕ). ltb f words && (told t f i && not (eqb (v i) (v (first_at t f i))))) (for i l)
        ∙ ap (λ (x : ℕ). ltb (u i) words && (ltb x i && not (eqb (v i) (v x)))) (at_cong (u i) i (omega arith))
        ∙ ap (λ (b : Bool). ltb (u i) words && b) (test_same i (first_at u (u i) i) (ltb (first_at u (u i) i) i) refl l)

    bad_cong : (words : ℕ) → first_bad t v words n ≡ first_bad u z words n
    bad_cong words = first_cong n _ _ (disagrees_cong words)

    word_same : (x : ℕ) (b : Bool) (o : Outcome) → ltb x n ≡ b → cond b (Disagrees (t x)) o ≡ cond b (Disagrees (u x)) o
    word_same x true o e = ap Disagrees (for x (ltb-true x n e))
    word_same x false o e = refl

    pub outcome_cong : (words : ℕ) → outcome_of t v words n ≡ outcome_of u z words n
    unfolding outcome_of
    outcome_cong words =
        ap (λ (x : ℕ). cond (ltb x n) (Disagrees (t x)) (cond (ltb (first_missing t words n) words) (Missing (first_missing t words n)) Whole)) (bad_cong words)
        ∙ word_same (first_bad u z words n) (ltb (first_bad u z words n) n) _ refl
        ∙ ap (λ (y : ℕ). cond (ltb (first_bad u z words n) n) (Disagrees (u (first_bad u z words n))) (cond (ltb y words) (Missing y) Whole)) (missing_cong words)
