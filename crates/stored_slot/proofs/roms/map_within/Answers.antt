-- `map_within` meets its contract. The invariant: `ok` says whether the GPIOs passed are in. Assumes nothing.
use Rattle.lists.proofs.Each.{each_none, each_turn}
use Rattle.stored_slot.proofs.roms.map_within.Goals as goal

pub loop-k-init : goal.loop-k-init
loop-k-init c = each_none _

pub loop-k-preserved : goal.loop-k-preserved
loop-k-preserved c =
    rw (c.within-ok.ensures, c.entry.ensures) (each_turn _ _ _ c.loop-k.invariant)
