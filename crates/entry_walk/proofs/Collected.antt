-- All entries: what the walk over them and the marks come to. Assumes nothing.
use Rattle.std.specs.Prelude.{Result, Ok, Err}
use mathlib.Core.Path.{◌≡◌, refl, sym, ◌∙◌, ap}
use mathlib.Core.Bool.{Bool, true, false, cond, not}
use mathlib.Core.List.{List, ◌++◌}
use Prim.Native.Nat.{ℕ, ◌*◌}
use lib.Dec.{ltb, eqb}
use lib.ListN.{length, get_or, drop, replicate}
use Rattle.entry_words.specs.Design.Kept.{told, first_bad, first_missing, outcome_of}
use Rattle.lists.specs.First.{first_where}
use Rattle.lent_buffers.specs.Design.Buffers.{kept}
use Rattle.entry_words.specs.Design.Collected.{output_held, marks_held, held_by, collected_of}
use Rattle.marked_words.specs.Design.Served.{served_by}
use Rattle.entry_words.specs.declared.Outcome.{Outcome}
use Rattle.entry_words.specs.declared.Outcome.TheVariants.{Whole, Disagrees, Missing}
use Rattle.lists.proofs.First.{first_cong}
use Rattle.entry_rows.proofs.Step.{mark-at}
use Rattle.entry_rows.specs.Design.Held.{Held, Read}
use Rattle.entry_rows.proofs.RowRead.{row-rest, row_marks_rest, row-through}

-- what the walk comes to is in the outcome
bad_case : (b : Bool) (x f : ℕ) (o : Outcome) → cond b (Err x) (Ok (tt {0})) ≡ Err f
    → cond b (Disagrees x) o ≡ Disagrees f
bad_case true x f o e = let q : x ≡ f = cc in ap Disagrees q
bad_case false x f o e = cc

through-case : (b : Bool) (x : ℕ) (o : Outcome) → cond b (Err x) (Ok (tt {0})) ≡ Ok tt
    → cond b (Disagrees x) o ≡ o
through-case true x o e = cc
through-case false x o e = refl

-- a word has no mark where no entry is for it
no_mark : (b : Bool) (x : ℕ) → x ≡ cond b 1 0 → eqb x 0 ≡ not b
no_mark true x e = rw e
no_mark false x e = rw e

missing-marks : (t : ℕ → ℕ) (words n : ℕ) (marks old : List ℕ) → marks ≡ marks_held t words n old
    → first_where words (λ f. eqb (get_or marks f 0) 0) ≡ first_missing t words n
missing-marks t words n marks old e = first_cong words _ _ (λ f l. no_mark (told t f n) (get_or marks f 0) (mark-at t words n marks old f l e))

module _ (w : ℕ) (t v : ℕ → ℕ) (words n : ℕ) (output marks : List ℕ) where
  served_case : (b : Bool) (g : ℕ) (o k : List ℕ) → o ≡ output_held w t v words n output → k ≡ marks_held t words n marks
      → drop (words * w) o ≡ drop (words * w) output → drop words k ≡ drop words marks
      → cond b (kept (Missing g) (replicate (words * w) 0 ++ drop (words * w) o) (replicate words 0 ++ drop words k)) (kept Whole o k)
      ≡ held_by w t v words n output marks (cond b (Missing g) Whole)
  served_case true g o k p q c d = rw (c, d)
  served_case false g o k p q c d = rw (p, q)

  -- the buffers as they are cleared, and as the walk leaves them
  module _ {o₁ k₁ : List ℕ} {x : Result (Unit {0}) ℕ} {o₂ k₂ : List ℕ} (h : Held w words t v output marks 0 o₁ k₁) (s : Read w words t v n o₁ k₁ x o₂ k₂) where
    pub collected_bad : (f : ℕ) (o₃ k₃ : List ℕ) → x ≡ Err f → o₃ ≡ replicate (words * w) 0 ++ drop (words * w) o₂
        → k₃ ≡ replicate words 0 ++ drop words k₂ → kept (Disagrees f) o₃ k₃ ≡ collected_of w t v words n output marks
    unfolding collected_of outcome_of
    collected_bad f o₃ k₃ e p q =
        let b = bad_case (ltb (first_bad t v words n) n) (t (first_bad t v words n)) f _ (sym s.answer ∙ e) in
        rw (p, q, row-rest n h s, row_marks_rest n h s) (sym (ap (held_by w t v words n output marks) b))

    pub collected_served : (y : Outcome) (o₃ k₃ : List ℕ) → x ≡ Ok tt → length o₂ ≡ length o₁ → length k₂ ≡ length k₁
        → kept y o₃ k₃ ≡ served_by w words o₂ k₂ (first_where words (λ f. eqb (get_or k₂ f 0) 0)) → kept y o₃ k₃ ≡ collected_of w t v words n output marks
    unfolding collected_of outcome_of
    collected_served y o₃ k₃ e l m r =
        let g = first_missing t words n in
        let all = row-through n h s e l m in
        r
        ∙ ap (served_by w words o₂ k₂) (missing-marks t words n k₂ marks all.told)
        ∙ served_case (ltb g words) g o₂ k₂ all.values all.told (row-rest n h s) (row_marks_rest n h s)
        ∙ sym (ap (held_by w t v words n output marks) (through-case (ltb (first_bad t v words n) n) (t (first_bad t v words n)) _ (sym s.answer ∙ e)))
