-- `byte_at` meets its contract. Assumes nothing.
use Rattle.hex_record.proofs.Ranges.{byte_of}
use Rattle.hex_record.proofs.digits.byte_at.Goals as goal

pub returns : goal.returns
returns c = byte_of _ _ _ _ c.value-high.ensures.0 c.value-low.ensures.0
