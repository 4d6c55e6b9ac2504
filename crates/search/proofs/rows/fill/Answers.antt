-- `fill` meets its contract. Assumes nothing.
use mathlib.Core.Path.{refl}
use native.Mathlib.Omega.{arith}
use Rattle.lists.proofs.Shifts.{shifted_one}
use Rattle.lists.proofs.Tab.{filled_none, filled_turn}
use Rattle.search.proofs.Taken.{row-short}
use Rattle.search.proofs.rows.fill.Goals as goal

pub loop-q-init : goal.loop-q-init
loop-q-init g c =
    let p = c.requires.room in
    let e = shifted_one c.args.split 64 (omega arith) in
    (c.requires.formed, p.1, rw e (row-short c.args.split p.0), e, filled_none refl)

pub loop-q-preserved : goal.loop-q-preserved
loop-q-preserved g c =
    let i = c.loop-q.invariant in
    (i.0, i.1, i.2, i.3, filled_turn i.4 (omega arith) c.part.ensures)
