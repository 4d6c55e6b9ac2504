-- `find` meets its contract. Assumes nothing.
use Rattle.std.proofs.Common.{arith}
use Rattle.hex_read.proofs.Found.{found_at, found_nowhere}
use Rattle.hex_read.proofs.lines.find.Goals as goal

pub returns-then-x-b-clause-value : goal.returns-then-x-b-clause-value
returns-then-x-b-clause-value c = found_at _ _ _ (omega arith) c.loop-i.invariant c.if-x-b.true

pub returns-clause-value : goal.returns-clause-value
returns-clause-value c = found_nowhere _ _ (λ k h. c.loop-i.invariant k (omega arith))
