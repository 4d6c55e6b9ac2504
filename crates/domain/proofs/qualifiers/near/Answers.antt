-- `near` meets its contract. The loop's invariant: `ok` says whether the qualifiers passed are at most 7 lower. Assumes nothing.
use Rattle.lists.proofs.Each.{each_none, each_turn}
use Rattle.domain.proofs.qualifiers.near.Goals as goal

pub loop-j-init : goal.loop-j-init
loop-j-init c = each_none _

pub loop-j-preserved : goal.loop-j-preserved
loop-j-preserved c =
    rw (c.qualifier_gpio-low.ensures, c.qualifier_gpio-high.ensures) (each_turn _ _ _ c.loop-j.invariant)
