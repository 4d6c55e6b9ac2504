-- `is_data` meets its contract. Assumes nothing.
use Rattle.hex_record.specs.Record.{is_data}
use Rattle.hex_record.proofs.is_data.Goals as goal

pub returns : goal.returns
unfolding is_data
returns c = rw c.record_byte.ensures.value
