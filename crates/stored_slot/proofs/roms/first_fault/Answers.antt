-- `first_fault` meets its contract. The invariant: `fault` is that of the ROMs passed. Assumes nothing.
use native.Mathlib.Omega.{arith}
use Rattle.refusal.proofs.Firsts.{first-none, first-turn}
use Rattle.stored_slot.proofs.roms.first_fault.Goals as goal

pub loop-k-init : goal.loop-k-init
loop-k-init c = (omega arith, first-none _)

pub loop-k-preserved : goal.loop-k-preserved
loop-k-preserved c =
    let v = c.loop-k in
    (omega arith, first-turn _ v.k _ _ _ v.invariant.1 c.rom_fault.ensures c.or-fault.ensures)
