-- `given_at` meets its contract. Assumes nothing.
use borrow.Author.Tests.{ne_eqb}
use Rattle.addr_record.proofs.Long.{given_long}
use Rattle.addr_record.proofs.given_at.Goals as goal

pub layout_at-requires : goal.layout_at-requires
layout_at-requires c = given_long c.args.b.now c.requires (ne_eqb _ _ c.if-b-eq0.false)
