-- `is_end` meets its contract. Assumes nothing.
use Rattle.hex_record.specs.Record.{is_end}
use Rattle.hex_record.proofs.is_end.Goals as goal

pub returns : goal.returns
unfolding is_end
returns c = rw c.record_byte.ensures.value
