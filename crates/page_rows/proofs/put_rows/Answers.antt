-- `put_rows` meets its contract. The loop's invariant: the rows passed are laid over the page. Assumes nothing.
use mathlib.Core.Path.{refl, ◌∙◌}
use native.Mathlib.Omega.{arith}
use Rattle.page_rows.proofs.RowsLaid.{rows_none, rows_turn}
use Rattle.page_rows.proofs.put_rows.Goals as goal

pub loop-gpio-init : goal.loop-gpio-init
loop-gpio-init c = (omega arith, refl, rows_none _ _)

pub loop-gpio-preserved : goal.loop-gpio-preserved
loop-gpio-preserved c =
    let v = c.loop-gpio in
    let p = c.put_row in
    (omega arith, p.auto.page ∙ v.invariant.1, rows_turn _ _ _ _ v.gpio _ v.invariant.2 p.ensures c.entry.ensures)
