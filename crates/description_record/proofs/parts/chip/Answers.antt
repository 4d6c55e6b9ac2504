-- `chip` meets its contract: each part is what its place has. Assumes nothing.
use Rattle.description_record.specs.Record.{chip_at}
use Rattle.description_record.proofs.parts.chip.Goals as goal

pub returns : goal.returns
unfolding chip_at
returns c = rw (c.four_at.ensures, c.control_lines.ensures, c.entry-2.ensures, c.bytes_at-2.ensures, c.entry.ensures, c.bytes_at.ensures)
