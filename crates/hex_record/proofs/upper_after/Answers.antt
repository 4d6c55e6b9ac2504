-- `upper_after` meets its contract. Assumes nothing.
use Rattle.hex_record.proofs.Shapes.{upper_here, upper_stays}
use Rattle.hex_record.proofs.upper_after.Goals as goal

pub returns-then-record_byte-eq4 : goal.returns-then-record_byte-eq4
returns-then-record_byte-eq4 c = upper_here _ _ _ _ _ c.record_byte.ensures.value c.if-record_byte-eq4.true c.record_byte-then-record_byte-eq4.ensures.value c.record_byte-then-record_byte-eq4-2.ensures.value

pub returns : goal.returns
returns c = upper_stays _ _ _ c.record_byte.ensures.value c.if-record_byte-eq4.false
