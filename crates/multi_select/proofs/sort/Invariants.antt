-- `sort` meets its contract. The loop's invariant: the lines passed are sorted as the rule sorts them. So few lines are
-- commoned or ignored that each has its place in the array. Assumes nothing.
use mathlib.Core.Path.{◌≡◌}
use Prim.Native.Nat.{◌≤◌}
use Rattle.multi_select.specs.Design.Sorted.{sorted}
use Rattle.multi_select.proofs.sort.Given as goal

abbrev pub invariant-loop-k : goal.invariant-loop-k
invariant-loop-k l = (l.k ≤ l.n) × (l.s ≡ sorted l.lines l.chip0 l.secondary l.k)
