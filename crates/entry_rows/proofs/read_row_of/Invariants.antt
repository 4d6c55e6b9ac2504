-- `read_row_of` meets its contract. The loop's invariant: the entries passed are read, and none of them disagrees. Assumes nothing.
use Prim.Native.Nat.{◌+◌, ◌≤◌}
use Rattle.entry_words.specs.Design.Reading.{word_by, value_by}
use Rattle.entry_rows.specs.Design.Held.{Held}
use Rattle.entry_rows.proofs.read_row_of.Given as goal

abbrev pub invariant-loop-low : goal.invariant-loop-low
invariant-loop-low g l =
    (l.low ≤ l.row.count) × Held l.r.word_bytes l.r.words (word_by l.r) (value_by l.r l.stored) l.initial.output l.initial.marks (l.row.start + l.low) l.output l.marks
