-- `apart` meets its contract. The invariant: `ok` says whether each line passed lies on a pin of its own. Assumes nothing.
use native.Mathlib.Omega.{arith}
use Rattle.lists.specs.Each.{each}
use Rattle.lists.proofs.Each.{each_none, each_turn}
use Rattle.lists.proofs.Loops.{at-count_of}
use Rattle.premises.specs.Wired.{apart}
use Rattle.wired.proofs.apart.apart.Goals as goal

pub loop-j-init : goal.loop-j-init
loop-j-init c = each_none _

pub loop-j-preserved : goal.loop-j-preserved
loop-j-preserved c = rw c.apart_from-ok.ensures (each_turn _ _ _ c.loop-j.invariant)

pub returns : goal.returns
unfolding apart
returns c = at-count_of each _ _ _ _ (omega arith) c.loop-j.invariant
