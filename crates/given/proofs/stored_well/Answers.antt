-- `stored_well` meets its contract: each sentence is asked. Assumes nothing.
use Rattle.premises.specs.Given.{stored_well}
use Rattle.given.proofs.stored_well.Goals as goal

pub returns : goal.returns
unfolding stored_well
returns c =
    let x = c.before.before.before.before in
    let bytes = x.before.before.before in
    let kind = bytes.before.before.before in
    rw (
      c.select_as.ensures,
      c.roms_as.ensures,
      c.bases_as.ensures,
      c.x_pins_as.ensures,
      x.size_is.ensures,
      x.word_bytes.ensures,
      bytes.algs_known.ensures,
      bytes.is_roms.ensures,
      kind.is_multi-multi.ensures,
    )
