-- `decode` meets its contract: what is no record is read as long as one. Assumes nothing.
use Rattle.description_record.proofs.Same.{padded_same}
use Rattle.description_record.proofs.decode.Goals as goal

pub returns : goal.returns
returns c =
    let p = c.before.before in
    rw (← p.formed.ensures, p.if-formed.false, c.description-description.ensures, c.padded-record.ensures, padded_same)
