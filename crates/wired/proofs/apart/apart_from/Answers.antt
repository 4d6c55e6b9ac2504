-- `apart_from` meets its contract. The invariant: `ok` says whether the lines passed lie on other pins. Assumes nothing.
use native.Mathlib.Omega.{arith}
use Rattle.lists.specs.Each.{each}
use Rattle.lists.proofs.Each.{each_none, each_turn}
use Rattle.lists.proofs.Loops.{at-count_of}
use Rattle.premises.specs.Wired.{apart_from}
use Rattle.wired.proofs.apart.apart_from.Goals as goal

pub loop-k-init : goal.loop-k-init
loop-k-init c = each_none _

pub loop-k-preserved : goal.loop-k-preserved
loop-k-preserved c = rw c.pin_of-other.ensures (each_turn _ _ _ c.loop-k.invariant)

pub returns : goal.returns
unfolding apart_from
returns c = rw (← c.pin_of-pin.ensures) (at-count_of each _ _ _ _ (omega arith) c.loop-k.invariant)
