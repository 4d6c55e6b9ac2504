-- `in_rows` meets its contract. Assumes nothing.
use mathlib.Core.Path.{refl}
use native.Mathlib.Omega.{arith}
use Rattle.search.proofs.Taken.{row_fits, rows_done}
use Rattle.search.proofs.rows.in_rows.Goals as goal

pub row_passed-state-requires-clause-row : goal.row_passed-state-requires-clause-row
row_passed-state-requires-clause-row g c =
    let i = c.loop-row.invariant in
    record { short = i.3; few = (row_fits _ _ _ _ _ _ c.loop-row-test.true i.1 i.2 i.3 i.4 refl refl).1; table = i.5 }

pub returns : goal.returns
returns g c =
    let i = c.loop-row.invariant in
    rows_done (g.C.InRows.after c.args.choices.now) _ _ _ _ _ (omega arith) i.1 i.2 i.6
