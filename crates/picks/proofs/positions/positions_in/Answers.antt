-- `positions_in` meets its contract. The invariant: `ok` says whether the GPIOs passed have positions. Assumes nothing.
use Rattle.lists.proofs.Each.{each_none, each_turn}
use Rattle.picks.proofs.positions.positions_in.Goals as goal

pub loop-k-init : goal.loop-k-init
loop-k-init c = each_none _

pub loop-k-preserved : goal.loop-k-preserved
loop-k-preserved c =
    rw (c.position_in-ok.ensures, c.entry-gpio.ensures) (each_turn _ _ _ c.loop-k.invariant)
