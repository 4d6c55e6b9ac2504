-- `multi` meets its contract: each part is what its place has. Assumes nothing.
use Rattle.description_record.specs.Record.{multi_at}
use Rattle.description_record.proofs.parts.multi.Goals as goal

pub returns : goal.returns
unfolding multi_at
returns c = rw (c.entry-3.ensures, c.bytes_at-2.ensures, c.entry-2.ensures, c.bytes_at.ensures, c.entry.ensures)
