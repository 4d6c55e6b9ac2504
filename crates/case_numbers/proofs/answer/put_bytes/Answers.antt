-- Nothing is written before the first turn, and each turn writes one byte. Assumes nothing.
use Rattle.std.proofs.Common.{arith}
use Rattle.case_numbers.proofs.Turns.{put_none, put_turn}
use Rattle.case_numbers.proofs.answer.put_bytes.Goals as goal

pub loop-k-init : goal.loop-k-init
loop-k-init c = put_none _ _

pub loop-k-preserved : goal.loop-k-preserved
loop-k-preserved c = put_turn _ _ _ _ c.loop-k.k _ c.loop-k.invariant c.wide.ensures c.put-end.ensures
