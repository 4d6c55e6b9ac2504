-- `formed` meets its contract: each place is looked at. Assumes nothing.
use Rattle.addr_record.specs.AddrRecord.{layout_formed}
use Rattle.addr_record.proofs.formed.Goals as goal

pub returns : goal.returns
unfolding layout_formed
returns c = rw (c.entry-spare.ensures, c.entry-spare_2.ensures, c.four_at-inverted.ensures)
