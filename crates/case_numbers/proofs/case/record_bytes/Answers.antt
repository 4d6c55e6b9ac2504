-- Each turn puts one byte in its place. Assumes nothing.
use Rattle.std.proofs.Common.{arith, rules}
use Rattle.lists.proofs.Tab.{filled_none, filled_turn, filled}
use Rattle.case_numbers.proofs.case.record_bytes.Goals as goal

pub loop-k-init : goal.loop-k-init
loop-k-init c = filled_none (search rules)

pub loop-k-preserved : goal.loop-k-preserved
loop-k-preserved c = filled_turn c.loop-k.invariant (omega arith) c.byte_at.ensures

pub returns : goal.returns
returns c = filled c.loop-k.invariant (omega arith)
