-- `roms_formed` meets its contract: each ROM is looked at. Assumes nothing.
use Rattle.lists.specs.Each.{each}
use Rattle.stored_record.proofs.parts.roms_formed.Goals as goal

pub returns : goal.returns
unfolding each
returns c = rw (c.flag_formed-fourth.ensures, c.flag_formed-third.ensures, c.flag_formed-second.ensures, c.flag_formed-first.ensures)
