-- `named_count` meets its contract. The loop's invariant: `count` is the number of named lines passed, which is at most
-- the number of lines passed. Assumes nothing.
use native.Mathlib.Omega.{arith}
use Rattle.lists.proofs.Each.{tally-none, tally-turn}
use Rattle.multi_select.proofs.named_count.Goals as goal

pub loop-k-init : goal.loop-k-init
loop-k-init c = (omega arith, omega arith, tally-none _)

pub loop-k-preserved : goal.loop-k-preserved
loop-k-preserved c =
    let v = c.loop-k in
    (omega arith, omega arith, rw (c.counted-count.ensures.0, c.kind_at-kind.ensures) (tally-turn _ _ _ v.invariant.2))
