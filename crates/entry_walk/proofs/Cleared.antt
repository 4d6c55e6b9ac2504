-- Cleared buffers hold what no entry tells. Assumes nothing.
use Rattle.std.specs.Prelude.{Ok}
use mathlib.Core.Path.{◌≡◌, refl, ◌∙◌}
use mathlib.Core.List.{List, ◌++◌}
use Prim.Native.Nat.{ℕ, zero, suc, ◌*◌}
use native.Mathlib.Nat.{zero-mul, suc-mul}
use lib.ListN.{length, drop, replicate, length-replicate, get_or-replicate, replicate-append-replicate}
use Rattle.lists.specs.Tab.{joined}
use Rattle.lists.proofs.Tab.{tab_is}
use Rattle.words.specs.Words.{bytes_of, words_bytes}
use Rattle.lists.specs.First.{first_where}
use Rattle.entry_words.specs.Design.Collected.{output_held, marks_held}
use Rattle.entry_rows.specs.Design.Walks.{walked_of}
use Rattle.entry_rows.specs.Design.Held.{Held}

bytes-zero : (w : ℕ) → bytes_of w 0 ≡ replicate w 0
unfolding bytes_of
bytes-zero zero = refl
bytes-zero (suc w) = rw (bytes-zero w)

words-zero : (w n : ℕ) → words_bytes w (λ i. 0) n ≡ replicate (n * w) 0
unfolding joined
words-zero w zero = rw zero-mul
words-zero w (suc n) = rw (words-zero w n, bytes-zero w, replicate-append-replicate {A = ℕ} (n * w) w 0, suc-mul)

module _ (w words : ℕ) (t v : ℕ → ℕ) (output marks : List ℕ) where
  pub output-none : replicate (words * w) 0 ++ drop (words * w) output ≡ output_held w t v words 0 output
  unfolding first_where
  output-none = rw (words-zero w words)

  pub marks-none : replicate words 0 ++ drop words marks ≡ marks_held t words 0 marks
  unfolding first_where
  marks-none =
      rw (tab_is (λ f. 0) (replicate words 0) 0 words (length-replicate {A = ℕ} words 0) (λ f l. rw (get_or-replicate {A = ℕ} words f 0 0 l)))

  none_read : walked_of t v words 0 ≡ Ok tt
  unfolding first_where
  none_read = refl

  pub held_none : (o k : List ℕ) → length o ≡ length output → length k ≡ length marks → o ≡ replicate (words * w) 0 ++ drop (words * w) output
      → k ≡ replicate words 0 ++ drop words marks → Held w words t v output marks 0 o k
  held_none o k l m e f = record { long = l; marks-long = m; through = none_read; values = e ∙ output-none; told = f ∙ marks-none }
