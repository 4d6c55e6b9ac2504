-- `write` meets its contract. Assumes nothing.
use native.Mathlib.Omega.{arith}
use lib.ListN.{length}
use borrow.Author.Tests.{le-ltb}
use Rattle.cs_data_record.specs.CsDataRecord.{cs_data_size}
use Rattle.calls.specs.Packed.{packed_code}
use Rattle.search_calls.proofs.cs_data.write.Goals as goal

pub returns : goal.returns
unfolding packed_code
returns c =
    rw (c.store.ensures, le-ltb (length c.args.buffer.now) cs_data_size (omega arith))
