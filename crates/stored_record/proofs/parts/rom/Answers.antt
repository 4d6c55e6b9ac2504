-- `rom` meets its contract: each part is what its place has. Assumes nothing.
use Rattle.stored_record.specs.StoredRecord.{rom_from}
use Rattle.stored_record.proofs.parts.rom.Goals as goal

pub returns : goal.returns
unfolding rom_from
returns c = rw (c.lines-2.ensures, c.lines.ensures, c.four_at.ensures, c.entry.ensures)
