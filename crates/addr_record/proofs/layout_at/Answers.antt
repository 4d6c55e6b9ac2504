-- `layout_at` meets its contract: each number is what its place has. Assumes nothing.
use Rattle.addr_record.specs.AddrRecord.{layout_at}
use Rattle.addr_record.proofs.layout_at.Goals as goal

pub returns : goal.returns
unfolding layout_at
returns c = rw (c.entry-6.ensures, c.entry-5.ensures, c.bytes_at.ensures, c.x_of-2.ensures, c.entry-4.ensures, c.x_of.ensures, c.entry-3.ensures, c.entry-2.ensures, c.entry.ensures)
