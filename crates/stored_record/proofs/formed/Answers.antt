-- `formed` meets its contract: each place is looked at. Assumes nothing.
use Rattle.stored_record.specs.StoredRecord.{stored_formed}
use Rattle.stored_record.proofs.formed.Goals as goal

pub returns : goal.returns
unfolding stored_formed
returns c = rw (c.roms_formed-roms.ensures, c.pair_in-x2.ensures, c.pair_in-x1.ensures, c.entry-has_layout.ensures)
