-- `checksum` meets its contract. Assumes nothing.
use Rattle.std.proofs.Common.{arith}
use Rattle.hex_base.proofs.Sums.{wrapped}
use Rattle.hex_base.proofs.checksum.Goals as goal

pub returns : goal.returns
returns c = wrapped _ _ _ (omega arith) c.sum.ensures (omega arith)
