-- One number more is a byte or not. Assumes nothing.
use Rattle.std.proofs.Common.{arith, length}
use Rattle.std.specs.Prelude.{eqb}
use Rattle.case_numbers.proofs.Turns.{tested_none, tested_turn}
use Rattle.case_numbers.proofs.case.has_bytes.Goals as goal

pub loop-k-init : goal.loop-k-init
loop-k-init c = tested_none _ _

pub loop-k-preserved : goal.loop-k-preserved
loop-k-preserved c =
    rw c.number_at.ensures (tested_turn (eqb (length c.args.case.now) c.args.n) _ _ _ c.loop-k.invariant)
