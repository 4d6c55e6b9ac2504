-- One number more is compared. Assumes nothing.
use Rattle.std.proofs.Common.{arith, length}
use Rattle.std.specs.Prelude.{eqb}
use Rattle.case_numbers.proofs.Turns.{tested_none, tested_turn}
use Rattle.case_numbers.proofs.answer.same.Goals as goal

pub loop-k-init : goal.loop-k-init
loop-k-init c = tested_none _ _

pub loop-k-preserved : goal.loop-k-preserved
loop-k-preserved c =
    rw (c.number_at.ensures, c.number_at-in-loop-k.ensures) (tested_turn (eqb (length c.args.theirs.now) c.args.n) _ _ _ c.loop-k.invariant)
