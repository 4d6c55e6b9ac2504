-- `put_byte` meets its contract. Assumes nothing.
use Rattle.laid_bytes.specs.Laid.{laid}
use Rattle.hex_write.proofs.record.put_byte.Goals as goal

pub returns : goal.returns
unfolding laid
returns c = rw (c.digit_for.ensures, c.digit_for-2.ensures)
