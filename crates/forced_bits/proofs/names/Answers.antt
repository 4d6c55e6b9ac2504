-- `names` meets its contract. The loop's invariant: whether one of the entries passed names the GPIO. Assumes nothing.
use Rattle.forced_bits.proofs.Loops.{names-none, names-turn}
use Rattle.forced_bits.proofs.names.Goals as goal

pub loop-k-init : goal.loop-k-init
loop-k-init c = names-none _ _ _

pub loop-k-preserved : goal.loop-k-preserved
loop-k-preserved c = names-turn _ _ _ _ _ _ _ c.loop-k.invariant c.entry.ensures c.names_it-found.ensures
