-- `pin_listed` meets its contract. Assumes nothing.
use Rattle.cs_pins.specs.Pins.{pin_listed}
use Rattle.cs_pins.proofs.pin_listed.Goals as goal

pub returns : goal.returns
unfolding pin_listed
returns c = rw (← c.pin_candidates-gpios.ensures) c.pack.ensures
