-- `lines_in` meets its contract. The loop's invariant: `ok` says whether each line passed is in the domain. Assumes nothing.
use native.Mathlib.Omega.{arith}
use Rattle.lists.specs.Each.{each}
use Rattle.lists.proofs.Each.{each_none, each_turn}
use Rattle.lists.proofs.Loops.{at-count_of}
use Rattle.domain.specs.Domain.{lines_in}
use Rattle.domain.proofs.chip.lines_in.Goals as goal

pub loop-k-init : goal.loop-k-init
loop-k-init c = each_none _

pub loop-k-preserved : goal.loop-k-preserved
loop-k-preserved c = rw c.line_in-ok.ensures (each_turn _ _ _ c.loop-k.invariant)

pub returns : goal.returns
unfolding lines_in
returns c = at-count_of each _ _ _ _ (omega arith) c.loop-k.invariant
