-- `walk` meets its contract. The loop's invariant: no entry of the rows passed disagrees, and the buffers hold what they told. Assumes nothing.
use Prim.Native.Nat.{◌*◌, min}
use Rattle.entry_words.specs.Design.Reading.{word_by, value_by}
use Rattle.entry_rows.specs.Design.Held.{Held}
use Rattle.entry_walk.proofs.walk.walk.Given as goal

abbrev pub invariant-loop-k : goal.invariant-loop-k
invariant-loop-k l =
    Held l.r.word_bytes l.r.words (word_by l.r) (value_by l.r l.stored) l.initial.output l.initial.marks (min (256 * l.k) l.entries) l.output l.marks
