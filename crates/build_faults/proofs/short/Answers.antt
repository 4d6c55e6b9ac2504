-- `short` meets its contract. The invariant: `fault` is that of the chips passed. Assumes nothing.
use native.Mathlib.Omega.{arith}
use Rattle.refusal.proofs.Firsts.{first-none, first-turn}
use Rattle.build_faults.proofs.short.Goals as goal

pub loop-k-init : goal.loop-k-init
loop-k-init c = (omega arith, first-none _)

pub loop-k-preserved : goal.loop-k-preserved
loop-k-preserved c =
    let v = c.loop-k in (
      omega arith,
      first-turn _ v.k _ _ _ v.invariant.1
          (rw (c.bytes_lent-lent.ensures, c.span_at.ensures, c.chip_size-size.ensures) at c.then_some.ensures) c.or-fault.ensures,
    )
