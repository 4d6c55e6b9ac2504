-- `record_byte` meets its contract. Assumes nothing.
use Rattle.std.proofs.Common.{ap, ◌∙◌, arith}
use Rattle.hex_record.specs.Digits.{digit_of}
use Rattle.hex_record.proofs.Ranges.{byte_of}
use Rattle.hex_record.proofs.digits.record_byte.Goals as goal

pub returns : goal.returns
returns c =
    let high = c.digit-high.ensures in
    let low = c.digit-low.ensures in
    record { value = byte_of _ _ _ _ (high.value ∙ ap digit_of c.entry.ensures) (low.value ∙ ap digit_of c.entry-2.ensures); upper_bound = omega (arith, high.upper_bound, low.upper_bound) }
