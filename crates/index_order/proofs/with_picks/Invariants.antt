-- `with_picks` meets its contract. The loop's invariant: the lines passed stand behind those of the ROM. Assumes nothing.
use Prim.Native.Nat.{◌≤◌}
use lib.ListN.{get_or}
use Rattle.index_order.proofs.Places.{Picking}
use Rattle.index_order.proofs.with_picks.Given as goal

abbrev pub invariant-loop-k : goal.invariant-loop-k
invariant-loop-k l = (l.k ≤ l.n) × Picking l.initial.out (λ j. get_or l.positions j 0) l.out l.k
