-- `layout_at` meets its contract: each number is what its place has. Assumes nothing.
use Rattle.cs_data_record.specs.CsDataRecord.{cs_data_at}
use Rattle.cs_data_record.proofs.layout_at.Goals as goal

pub returns : goal.returns
unfolding cs_data_at
returns c = rw (c.qualifiers.ensures, c.entry-8.ensures, c.lines_from-2.ensures, c.entry-7.ensures, c.lines_from.ensures, c.ignore_of.ensures, c.entry-6.ensures, c.entry-5.ensures, c.entry-4.ensures, c.bytes_at.ensures, c.entry-3.ensures, c.entry-2.ensures, c.entry.ensures)
