-- `well_formed` meets its contract: bytes of another length are no record, and those of its length are looked at. Assumes nothing.
use borrow.Author.Tests.{eq-eqb, ne_eqb}
use Rattle.description_record.specs.Record.{well_formed}
use Rattle.description_record.proofs.shape.well_formed.Goals as goal

pub returns-in-Ok : goal.returns-in-Ok
unfolding well_formed
returns-in-Ok c =
    let whole = c.in-Ok.ensures.1 in
    rw (eq-eqb _ _ whole.long, c.chips_in.ensures, c.pairs_in.ensures, c.cs_config_in.ensures, c.head_in.ensures, whole.same)

pub returns-in-Err : goal.returns-in-Err
unfolding well_formed
returns-in-Err c = rw (ne_eqb _ _ c.in-Err.ensures.1)
