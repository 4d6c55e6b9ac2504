-- `chips` meets its contract: each chip is what its 72 bytes have. Assumes nothing.
use Rattle.lists.specs.Tab.{tab}
use Rattle.description_record.proofs.parts.chips.Goals as goal

pub returns : goal.returns
unfolding tab
returns c = rw (c.chip-4.ensures, c.chip-3.ensures, c.chip-2.ensures, c.chip.ensures)
