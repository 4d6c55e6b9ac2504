-- What is kept of the verdicts on the way to why nothing fits. No answer is defined by it: `nothing_fits` is the answer. Assumes
-- nothing.
use Rattle.refusal.specs.declared.Refusal.{Refusal}
use Rattle.std.specs.Prelude.{ℕ, zero, suc, cond, eqb, Option, Some, None}
use Rattle.std.specs.Int.Bits.{bit_and}
use Rattle.gpio.specs.Set.{gap}
use Rattle.refusal.specs.declared.Refusal.TheVariants.{NonContiguousSelect}
use Rattle.cs_choices.specs.declared.nothing.Seen.{Seen}
use Rattle.cs_verdict.specs.declared.Verdict.{Verdict}
use Rattle.cs_verdict.specs.declared.Verdict.TheVariants.{DataGap, SelectGap, OutsideWindow, Fits}

-- the first of two sets that has a GPIO
abbrev pub or_set : ℕ → ℕ → ℕ
or_set s t = cond (eqb s 0) t s

-- the ignored GPIOs in a refused gap, and the refused set; no other verdict has any
abbrev pub interior_set : ℕ → Verdict → ℕ
interior_set ignored DataGap = 0
interior_set ignored (SelectGap s) = bit_and (gap s) ignored
interior_set ignored OutsideWindow = 0
interior_set ignored (Fits score) = 0

abbrev pub refused_set : Verdict → ℕ
refused_set DataGap = 0
refused_set (SelectGap s) = s
refused_set OutsideWindow = 0
refused_set (Fits score) = 0

-- 7 with a refused set, if there is one
abbrev pub refused_in : ℕ → Option Refusal
refused_in s = cond (eqb s 0) None (Some (NonContiguousSelect (record { bits = s })))

-- before the first choice
abbrev pub none_seen : Seen
none_seen = record { interior = 0; refused = 0 }

-- what was seen, and the verdict on a later choice
abbrev pub seen_with : ℕ → Seen → Verdict → Seen
seen_with ignored s v = record { interior = or_set s.interior (interior_set ignored v); refused = or_set (refused_set v) s.refused }

-- what was seen, and the verdicts on k choices more, in a row
unfoldable pub seen_onward : ℕ → Seen → (ℕ → Verdict) → ℕ → Seen
seen_onward ignored s verdict zero = s
seen_onward ignored s verdict (suc k) = seen_with ignored (seen_onward ignored s verdict k) (verdict k)
