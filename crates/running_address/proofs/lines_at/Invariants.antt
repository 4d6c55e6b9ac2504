-- `lines_at` meets its contract. The loop's invariant: the lines passed are each at their position. Assumes nothing.
use lib.ListN.{get_or}
use Rattle.running_address.proofs.Tables.{Listed}
use Rattle.running_address.proofs.lines_at.Given as goal

abbrev pub invariant-loop-k : goal.invariant-loop-k
invariant-loop-k l = Listed l.n (λ j. get_or l.positions j 0) l.out l.k
