-- `row_passed` meets its contract. The loop's invariant: the choices of the row before this one are passed. Assumes nothing.
use mathlib.Core.Path.{◌≡◌}
use mathlib.Core.Bool.{true, false}
use Prim.Native.Nat.{◌*◌, ◌^◌}
use Rattle.search.specs.Design.Rows.{RowIn}
use Rattle.search.proofs.rows.row_passed.Given as goal

abbrev pub invariant-loop-choice : goal.invariant-loop-choice
invariant-loop-choice g l =
    g.C.InRows.formed l.choices × RowIn (g.C.InRows.part_of l.choices true l.split) l.lows l.split l.row × (l.first ≡ l.row * 2 ^ l.split)
    × (l.count ≡ 2 ^ l.split) × (l.high ≡ g.C.InRows.part_of l.choices false l.split (l.row * 2 ^ l.split))
    × (l.state ≡ g.C.InRows.after l.choices l.choice)
