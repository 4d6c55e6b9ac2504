-- `sources` meets its contract. The invariant: the sources for the first values are in place. Assumes nothing.
use Rattle.lists.proofs.Tab.{Filled}
use Rattle.picks.specs.Picks.{picked_by}
use Rattle.build_wiring.specs.Design.Wiring.{source_of}
use Rattle.build_wiring.proofs.sources.sources.Given as goal

abbrev pub invariant-loop-bits : goal.invariant-loop-bits
invariant-loop-bits l = Filled 8 (λ b. source_of l.d l.spans (picked_by l.set_type l.d.num_chips b)) l.out l.bits
