-- `digit` meets its contract. Assumes nothing.
use Rattle.std.proofs.Common.{sym, ◌∙◌, arith}
use Rattle.hex_record.proofs.Ranges.{no_digit}
use Rattle.hex_record.proofs.digits.digit.Goals as goal

pub returns : goal.returns
returns c = record { value = no_digit _ (sym c.is_digit.ensures ∙ c.if-is_digit.false); upper_bound = omega arith }
