-- `kind_new` meets its contract. The loop's invariant: `ok` says whether each line passed is of another kind. Assumes nothing.
use Rattle.lists.proofs.Each.{each_none, each_turn}
use Rattle.domain.proofs.chip.kind_new.Goals as goal

pub loop-j-init : goal.loop-j-init
loop-j-init c = each_none _

pub loop-j-preserved : goal.loop-j-preserved
loop-j-preserved c =
    rw (c.kind_at.ensures, c.kind_at-kind.ensures) (each_turn _ _ _ c.loop-j.invariant)
