-- `roms` meets its contract: each ROM is what its 72 bytes have. Assumes nothing.
use Rattle.lists.specs.Tab.{tab}
use Rattle.stored_record.proofs.parts.roms.Goals as goal

pub returns : goal.returns
unfolding tab
returns c = rw (c.rom-4.ensures, c.rom-3.ensures, c.rom-2.ensures, c.rom.ensures)
