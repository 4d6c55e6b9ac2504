-- `same_row_of` meets its contract. The loop's invariant: the words passed are the same. Assumes nothing.
use mathlib.Core.Path.{◌≡◌}
use mathlib.Core.Bool.{true}
use Rattle.word_rows.specs.Design.Wrote.{SameRow}
use Rattle.word_rows.proofs.same_row_of.Given as goal

abbrev pub invariant-loop-q : goal.invariant-loop-q
invariant-loop-q g l = l.ok ≡ true → SameRow g.row.W l.lows l.low_bytes l.high_bytes l.from l.stored l.output l.at l.q
