-- `rom_fault` meets its contract. Assumes nothing.
use Rattle.stored_slot.specs.Faults.{rom_fault}
use Rattle.stored_slot.proofs.roms.rom_fault.Goals as goal

pub returns : goal.returns
unfolding rom_fault
returns c =
    rw (
      c.or-3.ensures,
      c.or-2.ensures,
      c.or.ensures,
      c.then_some-count.ensures,
      c.listed.ensures.value,
      c.then_some-data.ensures,
      c.map_within-2.ensures,
      c.data_base.ensures,
      c.then_some-lines.ensures,
      c.map_within.ensures,
      c.addr_base.ensures,
      c.then_some-missing.ensures,
      c.word_bytes-width.ensures,
      c.rom_at-rom.ensures,
    )
