-- cs_data_layout.rs: what a search in which nothing fits answers. Assumes nothing.
use Rattle.refusal.specs.declared.Refusal.{Refusal}
use Rattle.std.specs.Prelude.{ℕ, zero, suc, cond, eqb, Option, Some, None}
use Rattle.std.specs.Int.Bits.{bit_and}
use Rattle.gpio.specs.Set.{lowest, gap}
use Rattle.refusal.specs.declared.Refusal.TheVariants.{NonContiguousSelect, InteriorIgnoredLine}
use Rattle.refusal.specs.First.{or_else}
use Rattle.cs_verdict.specs.declared.Verdict.{Verdict}
use Rattle.cs_verdict.specs.declared.Verdict.TheVariants.{DataGap, SelectGap, OutsideWindow, Fits}

-- 01 Number 8: an ignored GPIO is in the gap of a set that was refused
-- 01 cs_data_layout 9: of the ignored GPIOs that one choice sees, 8 names the lowest
abbrev pub interior_in : ℕ → Option Refusal
interior_in seen = cond (eqb seen 0) None (Some (InteriorIgnoredLine (lowest seen)))

-- 01 cs_data_layout 9: a choice whose data GPIOs have no gap, and whose select set is refused, sees the ignored GPIOs in that set's
-- gap
abbrev pub interior_of : ℕ → Verdict → Option Refusal
interior_of ignored DataGap = None
interior_of ignored (SelectGap s) = interior_in (bit_and (gap s) ignored)
interior_of ignored OutsideWindow = None
interior_of ignored (Fits score) = None

-- 01 cs_data_layout 9: of the first k choices, the earliest that sees an ignored GPIO gives the 8
unfoldable pub interior : ℕ → (ℕ → Verdict) → ℕ → Option Refusal
interior ignored verdict zero = None
interior ignored verdict (suc k) = or_else (interior ignored verdict k) (interior_of ignored (verdict k))

-- 01 Number 7: the select set of a choice was refused
-- 01 cs_data_layout 9: 7 names the refused GPIOs as a set, which has them in rising order
abbrev pub refused_of : Verdict → Option Refusal
refused_of DataGap = None
refused_of (SelectGap s) = Some (NonContiguousSelect (record { bits = s }))
refused_of OutsideWindow = None
refused_of (Fits score) = None

-- 01 cs_data_layout 9: of the first k choices, the latest whose select set is refused gives the 7
unfoldable pub last_refused : (ℕ → Verdict) → ℕ → Option Refusal
last_refused verdict zero = None
last_refused verdict (suc k) = or_else (refused_of (verdict k)) (last_refused verdict k)

-- 01 cs_data_layout 9: 8 goes before 7; where neither is found, the caller says 9
abbrev pub nothing_fits : ℕ → (ℕ → Verdict) → ℕ → Option Refusal
nothing_fits ignored verdict n = or_else (interior ignored verdict n) (last_refused verdict n)
