-- `put_data` meets its contract. The loop's invariant: the data bytes passed are laid over the chip's. Assumes nothing.
use mathlib.Core.Path.{refl, ◌∙◌}
use native.Mathlib.Omega.{arith}
use lib.ListN.{length-set}
use Rattle.hex_read.proofs.Stored.{data-none, data-turn}
use Rattle.hex_read.proofs.store.put_data.Goals as goal

pub loop-k-init : goal.loop-k-init
loop-k-init c = (omega arith, refl, data-none _ _ _)

pub loop-k-preserved : goal.loop-k-preserved
loop-k-preserved c =
    let v = c.loop-k in
    (omega arith, length-set v.chip _ _ ∙ v.invariant.1, data-turn _ _ _ _ _ v.k c.byte_at.ensures v.invariant.2)
