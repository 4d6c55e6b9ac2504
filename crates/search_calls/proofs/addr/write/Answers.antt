-- `write` meets its contract. Assumes nothing.
use native.Mathlib.Omega.{arith}
use lib.ListN.{length}
use borrow.Author.Tests.{le-ltb}
use Rattle.addr_record.specs.AddrRecord.{addr_size}
use Rattle.calls.specs.Packed.{packed_code}
use Rattle.search_calls.proofs.addr.write.Goals as goal

pub returns : goal.returns
unfolding packed_code
returns c =
    rw (c.store.ensures, le-ltb (length c.args.buffer.now) addr_size (omega arith))
