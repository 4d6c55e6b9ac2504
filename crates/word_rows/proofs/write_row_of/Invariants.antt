-- `write_row_of` meets its contract. The loop's invariant: the words passed are written. Assumes nothing.
use mathlib.Core.Path.{◌≡◌}
use lib.ListN.{length}
use Rattle.word_rows.specs.Design.Wrote.{Wrote, row_says}
use Rattle.word_rows.proofs.write_row_of.Given as goal

abbrev pub invariant-loop-q : goal.invariant-loop-q
invariant-loop-q g l =
    (length l.output ≡ length l.initial.output) × Wrote g.row.W (row_says g.row.W l.lows l.low_bytes l.high_bytes l.stored l.from) l.at l.q l.initial.output l.output
