-- `mask` meets its contract. The loop's invariant: the mask of the positions passed. Assumes nothing.
use mathlib.Core.Path.{◌∙◌, ap}
use mathlib.Core.Bool.{Bool, cond}
use Prim.Native.Nat.{◌^◌}
use native.Mathlib.Omega.{arith}
use Rattle.forced_bits.proofs.Loops.{mask_none, mask_turn, mask_fits}
use Rattle.forced_bits.proofs.mask.Goals as goal

pub loop-p-init : goal.loop-p-init
loop-p-init c = (omega arith, mask_none _)

pub overflow_add-mask : goal.overflow_add-mask
overflow_add-mask c =
    let added = c.bit_if-mask.ensures ∙ ap (λ (b : Bool). cond b (2 ^ c.loop-p.p) 0) c.forces.ensures in
    omega (arith, mask_fits _ _ _ _ c.loop-p.invariant.1 added (omega (arith, c.requires)))

pub loop-p-preserved : goal.loop-p-preserved
loop-p-preserved c =
    let added = c.bit_if-mask.ensures ∙ ap (λ (b : Bool). cond b (2 ^ c.loop-p.p) 0) c.forces.ensures in
    (omega arith, mask_turn _ _ _ _ c.loop-p.invariant.1 added)
