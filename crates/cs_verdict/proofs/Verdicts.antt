-- Each verdict, and when it is given. Assumes nothing.
use mathlib.Core.Path.{◌≡◌}
use mathlib.Core.Bool.{Bool, true, false}
use Prim.Native.Nat.{ℕ}
use Rattle.gpio.specs.Set.{gapless}
use Rattle.cs_verdict.specs.Verdict.{selectable, all_of, in_one_window, score_of, verdict_of}
use Rattle.cs_verdict.specs.declared.Verdict.TheVariants.{DataGap, SelectGap, OutsideWindow, Fits}

module _ (multi : Bool) (qualifiers dataGpios selectGpios : ℕ) where
  pub fits_given : gapless dataGpios ≡ true → selectable multi selectGpios ≡ true → in_one_window (all_of dataGpios selectGpios qualifiers) ≡ true
      → verdict_of multi qualifiers dataGpios selectGpios ≡ Fits (score_of selectGpios qualifiers (all_of dataGpios selectGpios qualifiers))
  unfolding verdict_of
  fits_given p q r = rw (p, q, r)

  pub outside_given : gapless dataGpios ≡ true → selectable multi selectGpios ≡ true → in_one_window (all_of dataGpios selectGpios qualifiers) ≡ false
      → verdict_of multi qualifiers dataGpios selectGpios ≡ OutsideWindow
  unfolding verdict_of
  outside_given p q r = rw (p, q, r)

  pub select_gap_given : gapless dataGpios ≡ true → selectable multi selectGpios ≡ false → verdict_of multi qualifiers dataGpios selectGpios ≡ SelectGap selectGpios
  unfolding verdict_of
  select_gap_given p q = rw (p, q)

  pub data_gap_given : gapless dataGpios ≡ false → verdict_of multi qualifiers dataGpios selectGpios ≡ DataGap
  unfolding verdict_of
  data_gap_given p = rw p
