-- What all entries of a table leave in the lent output and marks. Assumes nothing.
use Rattle.std.specs.Prelude.{ℕ, ◌*◌, List, ◌++◌, drop, replicate}
use Rattle.lent_buffers.specs.Design.Buffers.{Kept, kept}
use Rattle.entry_words.specs.Design.Kept.{output_after, marks_after, outcome_of}
use Rattle.entry_words.specs.declared.Outcome.{Outcome}
use Rattle.entry_words.specs.declared.Outcome.TheVariants.{Whole, Disagrees, Missing}

-- the words at the front after m entries, and what stood past them
abbrev pub output_held : ℕ → (ℕ → ℕ) → (ℕ → ℕ) → ℕ → ℕ → List ℕ → List ℕ
output_held w t v words m old = output_after w t v words m ++ drop (words * w) old

abbrev pub marks_held : (ℕ → ℕ) → ℕ → ℕ → List ℕ → List ℕ
marks_held t words m old = marks_after t words m ++ drop words old

-- what all entries leave: the words and their marks where the outcome is whole
-- where an entry disagrees or a word is missing, every word's bytes and mark are 0
-- what stood behind the words, and behind their marks, stays
abbrev pub held_by : ℕ → (ℕ → ℕ) → (ℕ → ℕ) → ℕ → ℕ → List ℕ → List ℕ → Outcome → Kept Outcome
held_by w t v words m output marks Whole = kept Whole (output_held w t v words m output) (marks_held t words m marks)
held_by w t v words m output marks (Disagrees f) = kept (Disagrees f) (replicate (words * w) 0 ++ drop (words * w) output) (replicate words 0 ++ drop words marks)
held_by w t v words m output marks (Missing f) = kept (Missing f) (replicate (words * w) 0 ++ drop (words * w) output) (replicate words 0 ++ drop words marks)

unfoldable pub collected_of : ℕ → (ℕ → ℕ) → (ℕ → ℕ) → ℕ → ℕ → List ℕ → List ℕ → Kept Outcome
collected_of w t v words m output marks = held_by w t v words m output marks (outcome_of t v words m)
