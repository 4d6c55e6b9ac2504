-- `judge` meets its contract. Assumes nothing.
use mathlib.Core.Path.{sym, ◌∙◌}
use Rattle.cs_verdict.proofs.Verdicts.{fits_given, outside_given, select_gap_given, data_gap_given}
use Rattle.cs_verdict.proofs.judge.Goals as goal

pub returns-then-in_window : goal.returns-then-in_window
returns-then-in_window c =
    rw c.score.ensures (sym (fits_given _ _ _ _ (sym c.gapless.ensures ∙ c.if-gapless.true)
    (sym c.selectable.ensures ∙ c.if-selectable.true)
    (sym c.in_window.ensures ∙ c.if-in_window.true)))

pub returns-then-selectable : goal.returns-then-selectable
returns-then-selectable c =
    sym (outside_given _ _ _ _ (sym c.gapless.ensures ∙ c.if-gapless.true)
    (sym c.selectable.ensures ∙ c.if-selectable.true) (sym c.in_window.ensures ∙ c.if-in_window.false))

pub returns-then-gapless : goal.returns-then-gapless
returns-then-gapless c =
    sym (select_gap_given _ _ _ _ (sym c.gapless.ensures ∙ c.if-gapless.true) (sym c.selectable.ensures ∙ c.if-selectable.false))

pub returns : goal.returns
returns c = sym (data_gap_given _ _ _ _ (sym c.gapless.ensures ∙ c.if-gapless.false))
