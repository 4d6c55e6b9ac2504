-- `pick_positions` meets its contract. The loop's invariant: the positions of the lines passed are in place. Assumes nothing.
use mathlib.Core.Bool.{cond}
use lib.Dec.{ltb}
use Rattle.lists.proofs.Tab.{Filled}
use Rattle.stored_slot.specs.Words.{stored_pick_position}
use Rattle.unscramble.proofs.reading.pick_positions.Given as goal

abbrev pub invariant-loop-k : goal.invariant-loop-k
invariant-loop-k l = Filled 32 (λ j. cond (ltb j 3) (stored_pick_position l.s l.set_type j) 0) l.out l.k
