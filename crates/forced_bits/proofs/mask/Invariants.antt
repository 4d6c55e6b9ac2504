-- `mask` meets its contract. The loop's invariant: the mask of the positions passed. Assumes nothing.
use mathlib.Core.Path.{◌≡◌}
use mathlib.Core.Bool.{cond}
use Prim.Native.Nat.{◌≤◌}
use Rattle.forced_bits.specs.Design.Forced.{mask_of, high_at, forced_at}
use Rattle.forced_bits.proofs.mask.Given as goal

abbrev pub invariant-loop-p : goal.invariant-loop-p
invariant-loop-p l = (l.p ≤ l.n) × (l.mask ≡ mask_of l.p (λ q. cond l.low_too (forced_at l.s q) (high_at l.s q)))
