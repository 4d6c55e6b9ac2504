-- `moves` meets its contract. The loop's invariant: below t stand the lines that move, from there on those at each position. Assumes nothing.
use lib.ListN.{get_or}
use Rattle.running_address.proofs.Tables.{Joined}
use Rattle.running_address.proofs.moves.Given as goal

abbrev pub invariant-loop-t : goal.invariant-loop-t
invariant-loop-t l = Joined l.n (λ k. get_or l.positions k 0) l.out l.t
