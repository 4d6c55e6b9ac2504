-- `address_maps` meets its contract: each place's in its place. Assumes nothing.
use Rattle.lists.specs.Tab.{tab}
use Rattle.unscramble.proofs.reading.address_maps.Goals as goal

pub returns : goal.returns
unfolding tab
returns c = rw (c.address_map.ensures, c.address_map-2.ensures, c.address_map-3.ensures, c.address_map-4.ensures, c.pick_map.ensures)
