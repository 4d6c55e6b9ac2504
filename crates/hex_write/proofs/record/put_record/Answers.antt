-- `put_record` meets its contract. Assumes nothing.
use native.Mathlib.Omega.{arith}
use Rattle.hex_write.proofs.Records.{record-laid}
use Rattle.hex_write.proofs.record.put_record.Goals.{After-slice_known-3-1}
use Rattle.hex_write.proofs.record.put_record.Goals as goal

pub returns : goal.returns
returns c = record { value = omega arith; text_after = record-laid _ _ _ _ _ _ c.put_bytes.ensures c.checksum.ensures c.put_byte.ensures }
