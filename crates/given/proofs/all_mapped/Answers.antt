-- `all_mapped` meets its contract. The invariant: `ok` says whether the ROMs passed are as they should be. Assumes nothing.
use Rattle.lists.proofs.Each.{each_none, each_turn}
use Rattle.given.proofs.all_mapped.Goals as goal

pub loop-k-init : goal.loop-k-init
loop-k-init c = each_none _

pub loop-k-preserved : goal.loop-k-preserved
loop-k-preserved c = rw c.mapped_as-ok.ensures (each_turn _ _ _ c.loop-k.invariant)
