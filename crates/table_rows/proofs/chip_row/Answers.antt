-- `chip_row` meets its contract. The loop's invariant: the entries passed are written, and the address is the next index's. Assumes nothing.
use mathlib.Core.Path.{◌≡◌, ◌∙◌}
use Prim.Native.Nat.{◌+◌}
use native.Mathlib.Omega.{arith}
use Rattle.word_rows.proofs.Rows.{wrote_turn}
use Rattle.table_rows.proofs.Rows.{entry_is}
use Rattle.table_rows.proofs.chip_row.Goals as goal

pub loop-q-preserved : goal.loop-q-preserved
loop-q-preserved c =
    let a = c.args in
    let v = c.loop-q in
    let put = c.put_word in
    let on : a.row.first + (v.q + 1) ≡ a.row.first + v.q + 1 = omega arith in
    let entry = entry_is _ a.row a.n _ a.tables.lows.now a.tables.highs.now a.images.now v.q _ a.order _ _ v.invariant.2 c.chip_word_at-word.ensures.value c.scrambled-entry.ensures in (
      omega (arith, c.loop-q-test.true),
      put.auto.out ∙ v.invariant.1,
      rw on (c.next_address-address.ensures _ _ c.requires.moves_are v.invariant.2),
      wrote_turn _ _ _ v.q _ _ _ _ v.invariant.3 entry put.ensures,
    )
