-- `each_in` meets its contract. The loop's invariant: `ok` says whether the qualifiers passed are in the domain. Assumes nothing.
use Rattle.lists.proofs.Each.{each_none, each_turn}
use Rattle.domain.specs.Domain.{qualifier_in}
use Rattle.domain.proofs.qualifiers.each_in.Goals as goal

pub loop-k-init : goal.loop-k-init
loop-k-init c = each_none _

pub loop-k-preserved : goal.loop-k-preserved
unfolding qualifier_in
loop-k-preserved c = rw (c.near.ensures, c.entry-line.ensures) (each_turn _ _ _ c.loop-k.invariant)
