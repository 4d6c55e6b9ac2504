-- `scatter` meets its contract. The loop's invariant: the bits passed are at their positions. Assumes nothing.
use mathlib.Core.Path.{◌∙◌}
use native.Mathlib.Omega.{arith}
use Rattle.bits.proofs.Scattered.{scatter-none, scatter-turn, scatter-done}
use Rattle.lists.proofs.Clauses.{with_bound}
use Rattle.bits.proofs.scatter.Goals as goal

pub loop-k-init : goal.loop-k-init
loop-k-init c = (omega arith, scatter-none _ _ _)

pub loop-k-preserved : goal.loop-k-preserved
loop-k-preserved c =
    let v = c.loop-k in
    (omega arith, scatter-turn _ _ _ v.k _ _ v.invariant.1 (c.placed-word.ensures ∙ rw (c.bit_at-b.ensures.value, c.entry-p.ensures)))

pub returns : goal.returns
returns c = with_bound (scatter-done _ _ _ _ _ _ (omega arith) c.loop-k.invariant.1)
