-- `sum` meets its contract. The loop's invariant: s is the sum of the bytes passed, modulo 256. Assumes nothing.
use Rattle.std.proofs.Common.{refl}
use Rattle.hex_base.proofs.Sums.{sum-none, sum-turn}
use Rattle.hex_base.proofs.sum.Goals as goal

pub loop-byte-init : goal.loop-byte-init
loop-byte-init c = sum-none _

pub loop-byte-preserved : goal.loop-byte-preserved
loop-byte-preserved c = let v = c.loop-byte in sum-turn _ v.byte-index v.s _ _ v.invariant refl refl
