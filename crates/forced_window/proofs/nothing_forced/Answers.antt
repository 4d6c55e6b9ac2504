-- `nothing_forced` meets its contract. The invariant: `ok` says whether none of the overrides passed forces. Assumes nothing.
use native.Mathlib.Omega.{arith}
use Rattle.lists.specs.Each.{each}
use Rattle.lists.proofs.Each.{each_none, each_turn}
use Rattle.lists.proofs.Loops.{at-count_of}
use Rattle.premises.specs.Given.{nothing_forced}
use Rattle.forced_window.proofs.nothing_forced.Goals as goal

pub loop-k-init : goal.loop-k-init
loop-k-init c = each_none _

pub loop-k-preserved : goal.loop-k-preserved
loop-k-preserved c = rw (c.forces.ensures, c.entry-over.ensures) (each_turn _ _ _ c.loop-k.invariant)

pub returns : goal.returns
unfolding nothing_forced
returns c = at-count_of each _ _ _ _ (omega arith) c.loop-k.invariant
