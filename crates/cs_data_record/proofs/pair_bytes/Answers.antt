-- `pair_bytes` meets its contract. Assumes nothing.
use native.Mathlib.Omega.{arith}
use lib.ListN.{length-replicate}
use Rattle.lists.proofs.Tab.{filled_none}
use Rattle.cs_data_record.proofs.Pairs.{pair_turn}
use Rattle.cs_data_record.proofs.pair_bytes.Goals as goal

pub loop-k-init : goal.loop-k-init
loop-k-init g c = filled_none (length-replicate g.row.N 0)

pub loop-k-preserved : goal.loop-k-preserved
loop-k-preserved g c = pair_turn c.args.lines.now _ c.loop-k.invariant (omega arith)
