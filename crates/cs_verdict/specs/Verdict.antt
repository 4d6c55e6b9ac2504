-- cs_data_layout.rs: the verdict on one choice, by the sets of its GPIOs. Assumes nothing.
use Rattle.std.specs.Prelude.{ℕ, ◌+◌, ◌-◌, ◌*◌, Bool, not, ◌&&◌, ◌||◌, cond, eqb, Option, Some, None}
use Rattle.std.specs.Int.Bits.{bit_or}
use Rattle.gpio.specs.Set.{lowest, end, width, size, gapless}
use Rattle.gpio.specs.Window.{fits, base_over}
use Rattle.control.specs.AlgPreference.{preference_of}
use Rattle.cs_verdict.specs.declared.Verdict.{Verdict}
use Rattle.cs_verdict.specs.declared.Verdict.TheVariants.{DataGap, SelectGap, OutsideWindow, Fits}

-- 01 cs_data_layout 3: the select GPIOs have no gap or, in any set but Multi, lack a single GPIO
abbrev pub selectable : Bool → ℕ → Bool
selectable multi selectGpios = gapless selectGpios || (not multi && eqb (width selectGpios) (size selectGpios + 1))

-- 01 cs_data_layout 3: what the window has to hold: data, select and qualifier GPIOs
abbrev pub all_of : ℕ → ℕ → ℕ → ℕ
all_of dataGpios selectGpios qualifiers = bit_or (bit_or dataGpios selectGpios) qualifiers

-- 01 cs_data_layout 3: the base depends on the lowest GPIO that the window has to hold: 0 if it is below 16, and 16 if not
abbrev pub base_of : ℕ → ℕ
base_of all = base_over (lowest all)

-- 01 cs_data_layout 3: the window from the base on reaches the highest GPIO that it has to hold
abbrev pub in_one_window : ℕ → Bool
in_one_window all = fits (base_of all) (end all - base_of all)

-- 01 alg_preference 1: a choice is with qualifiers if there is a qualifier GPIO, and with an ignore index if its select GPIOs
-- have a gap
abbrev pub preference_by : ℕ → ℕ → ℕ
preference_by selectGpios qualifiers = preference_of (not (eqb qualifiers 0)) (not (gapless selectGpios))

-- 01 cs_data_layout 4: 1000 for each step of preference, and the span of all GPIOs: a span is below 1000, so that the preference
-- decides
abbrev pub score_of : ℕ → ℕ → ℕ → ℕ
score_of selectGpios qualifiers all = preference_by selectGpios qualifiers * 1000 + width all

-- 01 cs_data_layout 3: a choice fits if there is no gap in its data GPIOs, none in its select GPIOs but the one that is allowed,
-- and one window for all; they are tested in this order
unfoldable pub verdict_of : Bool → ℕ → ℕ → ℕ → Verdict
verdict_of multi qualifiers dataGpios selectGpios =
    cond (gapless dataGpios)
    (cond (selectable multi selectGpios)
    (cond (in_one_window (all_of dataGpios selectGpios qualifiers)) (Fits (score_of selectGpios qualifiers (all_of dataGpios selectGpios qualifiers))) OutsideWindow)
    (SelectGap selectGpios))
    DataGap

-- a choice by its verdict
abbrev pub verdict_trial : Verdict → Option ℕ
verdict_trial DataGap = None
verdict_trial (SelectGap s) = None
verdict_trial OutsideWindow = None
verdict_trial (Fits score) = Some score
