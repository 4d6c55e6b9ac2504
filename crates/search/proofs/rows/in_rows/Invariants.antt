-- `in_rows` meets its contract. The loop's invariant: the choices of the rows before this one are passed. Assumes nothing.
use mathlib.Core.Path.{◌≡◌}
use mathlib.Core.Bool.{true}
use Prim.Native.Nat.{◌*◌, ◌^◌, ◌-◌, ◌≤◌}
use lib.ListN.{take}
use Rattle.lists.specs.Tab.{tab}
use Rattle.search.proofs.rows.in_rows.Given as goal

abbrev pub invariant-loop-row : goal.invariant-loop-row
invariant-loop-row g l =
    g.C.InRows.formed l.choices × (l.rows ≡ 2 ^ (l.bits - l.split)) × (l.split ≤ l.bits) × (l.split ≤ 6) × (l.bits ≤ 16)
    × (take (2 ^ l.split) l.lows ≡ tab (2 ^ l.split) (g.C.InRows.part_of l.choices true l.split))
    × (l.state ≡ g.C.InRows.after l.choices (l.row * 2 ^ l.split))
