-- `write_row_of` meets its contract. The loop's invariant: the words passed are written. Assumes nothing.
use mathlib.Core.Path.{◌∙◌, ap}
use Rattle.word_rows.specs.Design.Wrote.{said_by}
use Rattle.word_rows.proofs.Rows.{wrote_turn}
use Rattle.word_rows.proofs.write_row_of.Goals as goal

pub loop-q-preserved : goal.loop-q-preserved
loop-q-preserved g c =
    let e = c.args.entries in
    let l = c.loop-q in
    (c.put_word.auto.out ∙ l.invariant.0, wrote_turn _ _ _ l.q _ _ _ _ l.invariant.1 (c.said-value.ensures ∙ ap (said_by e.low_bytes.now e.high_bytes.now) c.word_at.ensures.value) c.put_word.ensures)
