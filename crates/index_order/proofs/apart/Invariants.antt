-- `apart` meets its contract. The loop's invariant: the positions passed are apart, and seen. Assumes nothing.
use mathlib.Core.Path.{◌≡◌}
use Prim.Native.Nat.{◌≤◌}
use mathlib.Core.Bool.{true}
use lib.ListN.{get_or}
use Rattle.index_order.proofs.Places.{Seen}
use Rattle.index_order.proofs.apart.Given as goal

abbrev pub invariant-loop-k : goal.invariant-loop-k
invariant-loop-k l = (l.k ≤ l.n) × (l.ok ≡ true → Seen (λ j. get_or l.positions j 0) l.pins l.seen l.k)
