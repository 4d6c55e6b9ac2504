-- `places` meets its contract. The loop's invariant: the places of the bits passed are in place. Assumes nothing.
use mathlib.Core.Path.{refl, ◌∙◌, ap}
use native.Mathlib.Omega.{arith}
use Rattle.lists.proofs.Tab.{filled_none, filled_turn}
use Rattle.unscramble.specs.Design.Reading.{rom_place}
use Rattle.unscramble.proofs.reading.places.Goals as goal

pub loop-bits-init : goal.loop-bits-init
loop-bits-init c = filled_none refl

pub loop-bits-preserved : goal.loop-bits-preserved
loop-bits-preserved c = filled_turn c.loop-bits.invariant (omega arith) (c.place_of.ensures ∙ ap rom_place c.picked_by.ensures)
