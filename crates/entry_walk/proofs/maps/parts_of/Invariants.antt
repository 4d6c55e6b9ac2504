-- `parts_of` meets its contract. The loop's invariant: what the maps passed say is in place. Assumes nothing.
use Rattle.lists.proofs.Tab.{Filled}
use Rattle.entry_words.specs.Design.Reading.{part_by}
use Rattle.entry_walk.proofs.maps.parts_of.Given as goal

abbrev pub invariant-loop-k : goal.invariant-loop-k
invariant-loop-k l = Filled 5 (λ j. part_by l.maps j l.i) l.out l.k
