-- `pairs_in` meets its contract. The invariant: the first k pairs are looked at. Assumes nothing.
use Rattle.lists.proofs.Each.{each_none, each_turn}
use Rattle.description_record.proofs.shape.pairs_in.Goals as goal

pub loop-k-init : goal.loop-k-init
loop-k-init c = each_none _

pub loop-k-preserved : goal.loop-k-preserved
loop-k-preserved c = rw c.pair_in-ok.ensures (each_turn _ _ _ c.loop-k.invariant)
