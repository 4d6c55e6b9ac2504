-- `positions` meets its contract. The loop's invariant: the first k positions are in place. Assumes nothing.
use lib.ListN.{get_or}
use Rattle.lists.proofs.Tab.{Filled}
use Rattle.picks.specs.Positions.{position}
use Rattle.picks.proofs.positions.positions.Given as goal

abbrev pub invariant-loop-k : goal.invariant-loop-k
invariant-loop-k g l = Filled g.row.N (λ j. position l.base (get_or l.gpios j 0)) l.out l.k
