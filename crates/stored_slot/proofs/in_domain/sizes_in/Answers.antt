-- `sizes_in` meets its contract. The invariant: `ok` says whether the ROMs passed keep to the domain. Assumes nothing.
use Rattle.lists.proofs.Each.{each_none, each_turn}
use Rattle.stored_slot.proofs.in_domain.sizes_in.Goals as goal

pub loop-k-init : goal.loop-k-init
loop-k-init c = each_none _

pub loop-k-preserved : goal.loop-k-preserved
loop-k-preserved c = rw c.rom_at-rom.ensures (each_turn _ _ _ c.loop-k.invariant)
