-- `places` meets its contract. The loop's invariant: the places of the bits passed are in place. Assumes nothing.
use Rattle.lists.proofs.Tab.{Filled}
use Rattle.picks.specs.Picks.{picked_by}
use Rattle.unscramble.specs.Design.Reading.{rom_place}
use Rattle.unscramble.proofs.reading.places.Given as goal

abbrev pub invariant-loop-bits : goal.invariant-loop-bits
invariant-loop-bits l = Filled 8 (λ b. rom_place (picked_by l.set_type l.roms b)) l.out l.bits
