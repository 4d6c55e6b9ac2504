-- `first_missing` meets its contract. The loop's invariant: the words before f have a mark. Assumes nothing.
use native.Mathlib.Omega.{arith}
use borrow.Author.Tests.{eq-eqb}
use Rattle.lists.proofs.First.{first_here, first_nowhere}
use Rattle.lent_buffers.proofs.first_missing.Goals as goal

pub returns-then-marks-f-eq0 : goal.returns-then-marks-f-eq0
returns-then-marks-f-eq0 c = first_here _ _ _ c.loop-f.invariant (omega arith) (eq-eqb _ _ c.if-marks-f-eq0.true)

pub returns : goal.returns
returns c = first_nowhere _ _ _ c.loop-f.invariant (omega arith)
