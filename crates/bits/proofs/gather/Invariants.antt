-- `gather` meets its contract. The loop's invariant: the bits of the positions passed are in place. Assumes nothing.
use mathlib.Core.Path.{◌≡◌}
use Prim.Native.Nat.{◌-◌, ◌≤◌}
use lib.ListN.{get_or}
use Rattle.bits.specs.Bits.{gather}
use Rattle.bits.proofs.gather.Given as goal

abbrev pub invariant-loop-k : goal.invariant-loop-k
invariant-loop-k l = (l.k ≤ l.n) × (l.whole ≡ gather l.k (λ j. get_or l.positions j 0) l.i)
