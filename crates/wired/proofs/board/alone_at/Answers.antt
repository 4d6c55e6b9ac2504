-- `alone_at` meets its contract. The invariant: `ok` says whether the pin shares no candidate with the pins passed. Assumes nothing.
use native.Mathlib.Omega.{arith}
use Rattle.lists.specs.Each.{each}
use Rattle.lists.proofs.Each.{each_none, each_turn}
use Rattle.lists.proofs.Loops.{at-count_of}
use Rattle.premises.specs.Wired.{alone_at}
use Rattle.wired.proofs.board.alone_at.Goals as goal

pub loop-j-init : goal.loop-j-init
loop-j-init c = each_none _

pub loop-j-preserved : goal.loop-j-preserved
loop-j-preserved c = rw (c.disjoint.ensures, c.board_pin-other.ensures) (each_turn _ _ _ c.loop-j.invariant)

pub returns : goal.returns
unfolding alone_at
returns c = rw (← c.board_pin-pin.ensures) (at-count_of each _ _ _ _ (omega arith) c.loop-j.invariant)
