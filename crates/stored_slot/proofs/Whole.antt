-- Two faults of one number, one after the other, are one. Assumes nothing.
use mathlib.Core.Path.{◌≡◌}
use mathlib.Core.Bool.{Bool, not, ◌&&◌}
use Prim.Native.Nat.{ℕ}
use native.Mathlib.Omega.{arith}
use native.Mathlib.Decide.{dec_lt}
use lib.Dec.{leb, ltb}
use borrow.Author.Tests.{lt-ltb, le-ltb, le-leb, lt-leb}
use Rattle.refusal.specs.declared.Refusal.{Refusal}
use Rattle.refusal.specs.First.{or_else, fault_if}

-- a number that has to be below another, and a test beside it
pub two_faults : (p n : ℕ) (e : Bool) (why : Refusal) → fault_if (not (ltb p n && e)) why ≡ or_else (fault_if (leb n p) why) (fault_if (not e) why)
two_faults p n e why = elim (dec_lt p n) [
  | yes l ↦ rw (lt-ltb p n l, lt-leb n p l)
  | no l ↦ rw (le-ltb p n (omega arith), le-leb n p (omega arith))
]
