-- `data_maps` meets its contract: each place's in its place. Assumes nothing.
use Rattle.lists.specs.Tab.{tab}
use Rattle.unscramble.proofs.reading.data_maps.Goals as goal

pub returns : goal.returns
unfolding tab
returns c = rw (c.data_map.ensures, c.data_map-2.ensures, c.data_map-3.ensures, c.data_map-4.ensures, c.data_map-5.ensures)
