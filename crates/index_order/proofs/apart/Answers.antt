-- `apart` meets its contract. The loop's invariant: the positions passed are apart, and seen. Assumes nothing.
use native.Mathlib.Omega.{arith}
use Rattle.index_order.proofs.Places.{seen-turn}
use Rattle.index_order.proofs.apart.Goals as goal

pub loop-k-preserved : goal.loop-k-preserved
loop-k-preserved c =
    let l = c.loop-k in
    (omega arith, seen-turn _ _ c.requires _ _ _ _ _ l.invariant.1 c.entry-p.ensures c.bit_at.ensures.value)
