-- `unshared` meets its contract. The invariant: `ok` says whether the pins passed share no candidate. Assumes nothing.
use native.Mathlib.Omega.{arith}
use Rattle.lists.specs.Each.{each}
use Rattle.lists.proofs.Each.{each_none, each_turn}
use Rattle.lists.proofs.Loops.{at-count_of}
use Rattle.premises.specs.Wired.{unshared_among}
use Rattle.wired.proofs.board.unshared.Goals as goal

pub loop-i-init : goal.loop-i-init
loop-i-init c = each_none _

pub loop-i-preserved : goal.loop-i-preserved
loop-i-preserved c = rw c.alone_at-ok.ensures (each_turn _ _ _ c.loop-i.invariant)

pub returns : goal.returns
unfolding unshared_among
returns c = at-count_of each _ _ _ _ (omega arith) c.loop-i.invariant
