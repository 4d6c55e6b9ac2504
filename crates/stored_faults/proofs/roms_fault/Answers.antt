-- `roms_fault` meets its contract. Assumes nothing.
use Rattle.stored_slot.specs.Faults.{roms_fault}
use Rattle.stored_faults.proofs.roms_fault.Goals as goal

pub returns : goal.returns
unfolding roms_fault
returns c =
    rw (
      c.or-4.ensures,
      c.or-3.ensures,
      c.or-2.ensures,
      c.or.ensures,
      c.room_fault-room.ensures,
      c.pick_fault-picks.ensures,
      c.then_some-count.ensures,
      c.chips_fit.ensures,
      c.first_fault-roms.ensures,
      c.layout_fault-layout.ensures,
    )
