-- All entries, read word by word. Assumes nothing.
use mathlib.Core.Path.{◌≡◌}
use mathlib.Core.List.{List, ◌++◌}
use Prim.Native.Nat.{ℕ, ◌*◌}
use lib.ListN.{drop, replicate}
use Rattle.entry_words.specs.Design.Kept.{outcome_of}
use Rattle.lent_buffers.specs.Design.Buffers.{kept}
use Rattle.entry_words.specs.Design.Collected.{output_held, held_by, collected_of}
use Rattle.entry_words.specs.declared.Outcome.{Outcome}
use Rattle.entry_words.specs.declared.Outcome.TheVariants.{Whole, Disagrees, Missing}
use Rattle.entry_words.proofs.Whole.{whole-marks}

-- what stood in the words' place does not matter
module _ (w : ℕ) (t v : ℕ → ℕ) (words n : ℕ) (o₁ o₂ marks : List ℕ) (e : drop (words * w) o₁ ≡ drop (words * w) o₂) where
  held_from : (x : Outcome) → held_by w t v words n o₁ marks x ≡ held_by w t v words n o₂ marks x
  held_from Whole = rw e
  held_from (Disagrees f) = rw e
  held_from (Missing f) = rw e

  pub collected_from : collected_of w t v words n o₁ marks ≡ collected_of w t v words n o₂ marks
  unfolding collected_of
  collected_from = held_from (outcome_of t v words n)

-- all words read, word by word
pub collected_words : (w : ℕ) (t v : ℕ → ℕ) (words n : ℕ) (old marks o k : List ℕ) → outcome_of t v words n ≡ Whole → o ≡ output_held w t v words n old
    → k ≡ replicate words 1 ++ drop words marks → kept Whole o k ≡ collected_of w t v words n old marks
unfolding collected_of
collected_words w t v words n old marks o k e p q = rw (e, p, q, whole-marks t v words n e)
