-- Entries after those that are read: how far all are read then, and what the buffers hold. Assumes nothing.
use Rattle.std.specs.Prelude.{Result, Ok, Err}
use mathlib.Core.Path.{◌≡◌, refl, sym, ◌∙◌, ap}
use mathlib.Core.Bool.{Bool, true, false, cond}
use mathlib.Core.List.{List, ◌++◌}
use Prim.Native.Nat.{ℕ, ◌*◌, ◌≤◌, ◌<◌}
use native.Mathlib.Omega.{arith}
use lib.Dec.{ltb}
use lib.ListN.{length, drop}
use borrow.Author.Tests.{ltb-true, lt-ltb}
use Rattle.entry_words.specs.Design.Kept.{disagrees, first_bad, output_after, marks_after}
use Rattle.entry_rows.specs.Design.Walks.{walked_of}
use Rattle.entry_rows.specs.Design.Held.{Held, Read}
use Rattle.lists.proofs.First.{first-stays}
use Rattle.entry_rows.proofs.Held.{never, rest, marks-rest}

-- one that disagrees does so however many entries follow
module _ (t v : ℕ → ℕ) (words m n f : ℕ) where
  on-case : (b : Bool) → ltb (first_bad t v words m) m ≡ b → cond b (Err (t (first_bad t v words m))) (Ok (tt {0})) ≡ Err f → m ≤ n
      → walked_of t v words n ≡ Err f
  on-case true e h l =
      let q = ltb-true (first_bad t v words m) m e in
      let less : first_bad t v words m < n = omega arith in
      rw (first-stays (disagrees t v words) m n q less, lt-ltb (first_bad t v words m) n less) h
  on-case false e h l = cc

  pub disagrees-on : walked_of t v words m ≡ Err f → m ≤ n → walked_of t v words n ≡ Err f
  disagrees-on = on-case (ltb (first_bad t v words m) m) refl

module _ {w words : ℕ} {t v : ℕ → ℕ} {output₀ marks₀ : List ℕ} {m : ℕ} {output marks : List ℕ} (n : ℕ) {x : Result (Unit {0}) ℕ} {output' marks' : List ℕ}
    (h : Held w words t v output₀ marks₀ m output marks) (s : Read w words t v n output marks x output' marks') where
  -- what stands past the words
  pub row-rest : drop (words * w) output' ≡ drop (words * w) output₀
  row-rest = s.rest ∙ rest h

  pub row_marks_rest : drop words marks' ≡ drop words marks₀
  row_marks_rest = s.marks-rest ∙ marks-rest h

  -- entries that are read
  pub row-through : x ≡ Ok tt → length output' ≡ length output → length marks' ≡ length marks → Held w words t v output₀ marks₀ n output' marks'
  row-through e l k = record {
    long = l ∙ h.long;
    marks-long = k ∙ h.marks-long;
    through = sym s.answer ∙ e;
    values = s.values e ∙ ap (λ (a : List ℕ). output_after w t v words n ++ a) (rest h);
    told = s.told e ∙ ap (λ (a : List ℕ). marks_after t words n ++ a) (marks-rest h);
  }

  -- one that disagrees
  pub row_bad : (entries f : ℕ) → x ≡ Err f → n ≤ entries → Read w words t v entries output₀ marks₀ (Err f) output' marks'
  row_bad entries f e l = record {
    answer = sym (disagrees-on t v words n entries f (sym s.answer ∙ e) l);
    rest = row-rest;
    marks-rest = row_marks_rest;
    values = λ q. absurd (never f q);
    told = λ q. absurd (never f q);
  }
