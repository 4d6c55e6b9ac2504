-- One of the words, and one of the marks, written in its place. Assumes nothing.
use mathlib.Core.Path.{◌≡◌, refl, sym, ◌∙◌}
use mathlib.Core.List.{List, ◌∷◌, ◌++◌, append_assoc}
use mathlib.Core.Bool.{Bool, true, false}
use mathlib.Core.Logic.{inl, inr}
use Prim.Native.Nat.{ℕ, zero, suc, ◌+◌, ◌*◌, ◌<◌}
use native.Mathlib.Nat.{le_of_suc-le-suc, eq-or-lt_of_le}
use native.Mathlib.Numerals.{add-one}
use native.Mathlib.Omega.{arith}
use lib.ListN.{length, take, drop, get_or, set, length-append, length-set}
use lib.Seq.{take_at, drop_at, set_split, set-append_left, get_or-set_same, get_or-set_other}
use lib.Dec.{eqb}
use borrow.Author.Tests.{eqb-true, eqb-false}
use Rattle.lists.specs.Tab.{tab, joined}
use Rattle.lists.proofs.Tab.{tab_is, tab-length, get_or-tab}
use Rattle.words.specs.Words.{bytes_of, words_bytes}
use Rattle.words.proofs.Words.{bytes-length, words-length, words_cong}

-- f and g differ at k alone
module _ (f g : ℕ → ℕ) (k : ℕ) (others : (j : ℕ) → (j ≡ k → ⊥) → f j ≡ g j) where
  -- the last of the words
  put_last : (w n : ℕ) (rest old : List ℕ) → k ≡ n → old ≡ words_bytes w f n ++ bytes_of w (f n) ++ rest
      → take (k * w) old ++ bytes_of w (g k) ++ drop (k * w + w) old ≡ words_bytes w g n ++ bytes_of w (g n) ++ rest
  put_last w n rest old q e =
      let l : length (words_bytes w f n ++ bytes_of w (f n)) ≡ n * w + w = rw (length-append, words-length w f n, bytes-length) in
      let front : take (n * w) old ≡ words_bytes w f n = rw (e, append_assoc) (take_at (words_bytes w f n) (bytes_of w (f n) ++ rest) (n * w) (words-length w f n)) in
      let back : drop (n * w + w) old ≡ rest = rw e (drop_at (words_bytes w f n ++ bytes_of w (f n)) rest (n * w + w) l) in
      rw (q, front, back, words_cong w f g n (λ j h. others j (λ z. omega arith)))

  pub words_put : (w n : ℕ) (rest old : List ℕ) → k < n → old ≡ words_bytes w f n ++ rest
      → take (k * w) old ++ bytes_of w (g k) ++ drop (k * w + w) old ≡ words_bytes w g n ++ rest
  unfolding joined
  words_put w zero rest old l e = absurd (omega arith)
  words_put w (suc n) rest old l e =
      elim (eq-or-lt_of_le (le_of_suc-le-suc l)) [
        | inl q ↦ put_last w n rest old q e
        | inr q ↦ words_put w n (bytes_of w (f n) ++ rest) old q (e ∙ append_assoc (words_bytes w f n) (bytes_of w (f n)) rest) ∙ rw (others n (λ z. omega arith), append_assoc)
      ]

  mark_put : (n j : ℕ) → k < n → j < n → (b : Bool) → eqb j k ≡ b → g j ≡ get_or (set (tab n f) k (g k)) j 0
  mark_put n j l h true e =
      let s = eqb-true j k e in
      rw (s, get_or-set_same (tab n f) k (g k) 0 (rw (tab-length f n) l))
  mark_put n j l h false e =
      let d = eqb-false j k e in
      sym (get_or-set_other (tab n f) k j (g k) 0 d ∙ get_or-tab f n j 0 h ∙ others j d)

  pub marks_put : (n : ℕ) (rest old : List ℕ) → k < n → old ≡ tab n f ++ rest → take k old ++ (g k ∷ drop (k + 1) old) ≡ tab n g ++ rest
  marks_put n rest old l e =
      let long : k < length (tab n f) = rw (tab-length f n) l in
      let all : k < length (tab n f ++ rest) = simp length-append (omega arith) in
      let filled : tab n g ≡ set (tab n f) k (g k) =
      tab_is g (set (tab n f) k (g k)) 0 n (simp length-set (tab-length f n)) (λ j h. mark_put n j l h (eqb j k) refl) in
      rw (e, add-one, ← set_split (tab n f ++ rest) k (g k) all, set-append_left (tab n f) rest k (g k) long, filled)
