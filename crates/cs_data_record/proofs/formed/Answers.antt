-- `formed` meets its contract. Assumes nothing.
use Rattle.cs_data_record.specs.CsDataRecord.{cs_data_formed}
use Rattle.cs_data_record.proofs.formed.Goals as goal

pub returns : goal.returns
unfolding cs_data_formed
returns c = rw c.entry.ensures
