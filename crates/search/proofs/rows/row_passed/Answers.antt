-- `row_passed` meets its contract. Assumes nothing.
use mathlib.Core.Path.{◌≡◌}
use Prim.Native.Nat.{◌+◌, ◌*◌, ◌^◌, ◌-◌, ◌<◌}
use native.Mathlib.Omega.{arith}
use Rattle.search.proofs.Passed.{table-long, table_entry, passed_next}
use Rattle.search.proofs.rows.row_passed.Goals as goal

pub offset_bounds-lows-choice : goal.offset_bounds-lows-choice
offset_bounds-lows-choice g c = omega (arith, table-long _ _ _ c.requires.row.table, c.loop-choice.invariant.3)

pub bounds-lows-choice : goal.bounds-lows-choice
bounds-lows-choice g c = omega (arith, table-long _ _ _ c.requires.row.table, c.loop-choice.invariant.3)

pub loop-choice-preserved : goal.loop-choice-preserved
loop-choice-preserved g c =
    let i = c.loop-choice.invariant in
    let a = c.args in
    let q = c.loop-choice.choice - a.row * 2 ^ a.split in
    let e : c.loop-choice.choice ≡ a.row * 2 ^ a.split + q = omega (arith, i.2) in
    let l : q < 2 ^ a.split = omega (arith, i.2, i.3) in (
      i.0,
      i.1,
      i.2,
      i.3,
      i.4,
      passed_next (g.C.InRows.stepped a.choices.now) (g.C.InRows.after a.choices.now) _ _ _ _ _ _ _ _ c.step-state.ensures i.5 e
          (table_entry _ _ _ i.1.table _ _ l (rw i.2 at c.index-lows-choice.is)) i.4 (g.met.C.InRows.passes a.choices.now a.split a.row q i.0 l),
    )
