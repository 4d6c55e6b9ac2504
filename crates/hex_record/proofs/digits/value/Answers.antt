-- `value` meets its contract: a case a range. Assumes nothing.
use Rattle.hex_record.proofs.Ranges.{value_of}
use Rattle.hex_record.proofs.digits.value.Goals as goal

pub returns : goal.returns
returns c = value_of c.args.c c.requires
