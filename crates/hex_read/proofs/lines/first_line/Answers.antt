-- `first_line` meets its contract. Assumes nothing.
use Rattle.hex_read.proofs.Splits.{last_line, line-ahead}
use Rattle.hex_read.proofs.lines.first_line.Goals as goal

pub returns-then-at-text : goal.returns-then-at-text
returns-then-at-text c = last_line _ _ c.requires c.find-at.ensures.value c.if-at-text.true

pub returns : goal.returns
returns c =
    let found = c.find-at.ensures in
    line-ahead _ _ _ found.value found.upper_bound c.if-at-text.false c.bare_end.ensures.upper_bound c.bare_end.ensures.value
