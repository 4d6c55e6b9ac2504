-- `moves` meets its contract. The loop's invariant: below t stand the lines that move, from there on those at each position. Assumes nothing.
use native.Mathlib.Omega.{arith}
use Rattle.running_address.proofs.Tables.{joined-turn}
use Rattle.running_address.proofs.moves.Goals as goal

pub loop-t-preserved : goal.loop-t-preserved
loop-t-preserved c = let v = c.loop-t in joined-turn _ _ _ v.t v.invariant (omega (arith, c.loop-t-test.true))
