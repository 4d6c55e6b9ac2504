-- `fault_line` meets its contract. Assumes nothing.
use mathlib.Core.Path.{sym, ◌∙◌, ap}
use Rattle.hex_read.specs.Read.{line_in}
use Rattle.hex_read.proofs.Verdicts.{too_long-line, verdict-line}
use Rattle.hex_read.proofs.fault_line.Goals as goal

pub returns-then-too_long : goal.returns-then-too_long
returns-then-too_long c = too_long-line _ _ (sym c.too_long.ensures ∙ c.if-too_long.true)

pub returns-in-Err : goal.returns-in-Err
returns-in-Err c =
    let j = c.before.before.before in
    verdict-line _ _ _ _ (sym j.too_long.ensures ∙ j.if-too_long.false) c.judge.ensures (ap line_in (sym c.in-Err.is))

pub returns-in-Ok : goal.returns-in-Ok
returns-in-Ok c =
    let j = c.before.before in
    verdict-line _ _ _ _ (sym j.too_long.ensures ∙ j.if-too_long.false) c.judge.ensures (ap line_in (sym c.in-Ok.is))
