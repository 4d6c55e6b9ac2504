-- `same_to` meets its contract. The invariant: `ok` says whether the entries passed are the same. Assumes nothing.
use native.Mathlib.Omega.{arith}
use Rattle.lists.specs.Each.{each}
use Rattle.lists.proofs.Each.{each_none, each_turn}
use Rattle.lists.proofs.Loops.{at-count_of}
use Rattle.premises.specs.Same.{same_to}
use Rattle.same_values.proofs.same_to.Goals as goal

pub loop-k-init : goal.loop-k-init
loop-k-init c = each_none _

pub loop-k-preserved : goal.loop-k-preserved
loop-k-preserved c = rw (c.entry-y.ensures, c.entry-x.ensures) (each_turn _ _ _ c.loop-k.invariant)

pub returns : goal.returns
unfolding same_to
returns c = at-count_of each _ _ _ _ (omega arith) c.loop-k.invariant
