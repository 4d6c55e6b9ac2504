-- `wiring` meets its contract. Assumes nothing.
use Rattle.build_wiring.specs.Design.Wiring.{wiring_of}
use Rattle.build_wiring.proofs.wiring.wiring.Goals as goal

pub returns : goal.returns
unfolding wiring_of
returns c = rw (c.data_positions.ensures, c.num_picks.ensures.value, c.pick_positions.ensures, c.address_positions.ensures)
