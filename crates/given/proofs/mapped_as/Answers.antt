-- `mapped_as` meets its contract. Assumes nothing.
use Rattle.premises.specs.Given.{mapped_as}
use Rattle.given.proofs.mapped_as.Goals as goal

pub returns : goal.returns
unfolding mapped_as
returns c =
    let size = c.before.before.before.before in
    rw (c.lists_data.ensures, c.lists_lines.ensures, c.chip_size-size.ensures, size.rom_at-rom.ensures)
