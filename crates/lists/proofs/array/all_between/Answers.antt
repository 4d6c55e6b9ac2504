-- `all_between` meets its contract. The loop's invariant: `ok` says whether each entry passed is in range. Assumes nothing.
use Rattle.lists.proofs.Each.{each_none, each_turn}
use Rattle.lists.proofs.array.all_between.Goals as goal

pub loop-k-init : goal.loop-k-init
loop-k-init c = each_none _

pub loop-k-preserved : goal.loop-k-preserved
loop-k-preserved c = rw c.entry-x.ensures (each_turn _ _ _ c.loop-k.invariant)
