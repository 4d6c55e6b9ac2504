-- What the marks say. Assumes nothing.
use Rattle.std.specs.Prelude.{ℕ, ◌*◌, cond, List, ◌++◌, ltb, drop, replicate}
use Rattle.lent_buffers.specs.Design.Buffers.{Kept, kept}
use Rattle.entry_words.specs.declared.Outcome.{Outcome}
use Rattle.entry_words.specs.declared.Outcome.TheVariants.{Whole, Missing}

-- once no entry disagrees, by the lowest word without a mark
abbrev pub served_by : ℕ → ℕ → List ℕ → List ℕ → ℕ → Kept Outcome
served_by w words output marks f =
    cond (ltb f words)
    (kept (Missing f) (replicate (words * w) 0 ++ drop (words * w) output) (replicate words 0 ++ drop words marks))
    (kept Whole output marks)
