-- `first_gpios` meets its contract. The loop's invariant: the GPIOs of the lines passed are in place. Assumes nothing.
use mathlib.Core.Bool.{cond}
use lib.Dec.{ltb}
use lib.ListN.{get_or}
use Rattle.lists.proofs.Tab.{Filled}
use Rattle.listing.proofs.choice.first_gpios.Given as goal

abbrev pub invariant-loop-k : goal.invariant-loop-k
invariant-loop-k g l = Filled g.row.N (λ j. cond (ltb j l.lines) (get_or l.all j 0) 0) l.out l.k
