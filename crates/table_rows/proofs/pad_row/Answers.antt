-- `pad_row` meets its contract. The loop's invariant: the entries passed are written. Assumes nothing.
use mathlib.Core.Path.{refl, ◌∙◌}
use native.Mathlib.Omega.{arith}
use Rattle.word_rows.proofs.Rows.{wrote_turn}
use Rattle.table_rows.proofs.pad_row.Goals as goal

pub loop-q-preserved : goal.loop-q-preserved
loop-q-preserved c =
    let put = c.put_word in
    let l = c.loop-q in
    (omega arith, put.auto.out ∙ l.invariant.1, wrote_turn _ _ _ l.q _ _ _ _ l.invariant.2 refl put.ensures)
