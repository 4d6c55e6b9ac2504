-- `fill` meets its contract. The loop's invariant: what the numbers passed come to is in place. Assumes nothing.
use mathlib.Core.Path.{◌≡◌}
use mathlib.Core.Bool.{true}
use Prim.Native.Nat.{◌^◌, ◌≤◌}
use lib.ListN.{length}
use Rattle.lists.proofs.Tab.{Filled}
use Rattle.search.proofs.rows.fill.Given as goal

abbrev pub invariant-loop-q : goal.invariant-loop-q
invariant-loop-q g l =
    g.C.InRows.formed l.choices × (64 ≤ length l.fn.lows) × (l.count ≤ 64) × (l.count ≡ 2 ^ l.split)
    × Filled (length l.fn.lows) (λ j. g.C.InRows.part_of l.choices true l.split j) l.lows l.q
