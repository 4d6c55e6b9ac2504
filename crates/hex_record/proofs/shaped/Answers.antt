-- `shaped` meets its contract. Assumes nothing.
use Rattle.hex_record.specs.Record.{shaped}
use Rattle.hex_record.proofs.shaped.Goals as goal

pub returns : goal.returns
unfolding shaped
returns c =
    rw (c.type_sound.ensures, c.well_formed-2.ensures, c.requires.typed, c.requires.counted, c.requires.placed)
