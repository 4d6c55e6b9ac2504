-- `picks_in` meets its contract. The invariant: `ok` says whether the lines passed have positions. Assumes nothing.
use native.Mathlib.Omega.{arith}
use Rattle.lists.specs.Each.{each}
use Rattle.lists.proofs.Each.{each_none, each_turn}
use Rattle.lists.proofs.Loops.{at-count_of}
use Rattle.build_args.specs.Faults.{picks_in}
use Rattle.build_args.proofs.lines.picks_in.Goals as goal

pub loop-k-init : goal.loop-k-init
loop-k-init c = each_none _

pub loop-k-preserved : goal.loop-k-preserved
loop-k-preserved c =
    rw (c.x_position_in-ok.ensures, c.pick_of.ensures) (each_turn _ _ _ c.loop-k.invariant)

pub returns : goal.returns
unfolding picks_in
returns c = rw c.num_picks-n.ensures.value at (at-count_of each _ _ c.num_picks-n.result _ (omega arith) c.loop-k.invariant)
