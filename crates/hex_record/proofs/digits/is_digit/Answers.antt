-- `is_digit` meets its contract. Assumes nothing.
use Rattle.hex_record.proofs.Ranges.{in_ranges}
use Rattle.hex_record.proofs.digits.is_digit.Goals as goal

pub returns : goal.returns
returns c = in_ranges c.args.c
