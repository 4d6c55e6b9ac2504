-- `sum` meets its contract. The loop's invariant: s is the sum of the bytes passed, modulo 256. Assumes nothing.
use Rattle.std.proofs.Common.{refl, ◌%◌, ap, arith}
use Rattle.hex_base.proofs.Sums.{sum-none, sum-turn}
use Rattle.hex_record.proofs.digits.sum.Goals as goal

pub loop-k-init : goal.loop-k-init
loop-k-init c = (omega arith, sum-none _)

pub loop-k-preserved : goal.loop-k-preserved
loop-k-preserved c =
    let v = c.loop-k in
    (omega arith, sum-turn _ v.k v.s _ _ v.invariant.1 (ap (λ x. x % 256) c.byte_at-s.ensures) refl)
