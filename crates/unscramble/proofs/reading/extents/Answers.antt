-- `extents` meets its contract: each place's in its place. Assumes nothing.
use Rattle.lists.specs.Tab.{tab}
use Rattle.unscramble.proofs.reading.extents.Goals as goal

pub returns : goal.returns
unfolding tab
returns c = rw (c.extent.ensures, c.extent-2.ensures, c.extent-3.ensures, c.extent-4.ensures, c.extent-5.ensures)
