-- `scatter` meets its contract. The loop's invariant: the bits passed are at their positions. Assumes nothing.
use mathlib.Core.Path.{◌≡◌}
use Prim.Native.Nat.{◌-◌, ◌≤◌}
use lib.ListN.{get_or}
use Rattle.bits.specs.Bits.{scatter}
use Rattle.bits.proofs.scatter.Given as goal

abbrev pub invariant-loop-k : goal.invariant-loop-k
invariant-loop-k l = (l.k ≤ l.n) × (l.word ≡ scatter l.k (λ j. get_or l.positions j 0) l.m l.v)
