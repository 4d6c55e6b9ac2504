-- `put_bytes` meets its contract. The loop's invariant: the digits of the bytes passed are laid over the text's. Assumes nothing.
use mathlib.Core.Path.{refl, ◌∙◌}
use native.Mathlib.Omega.{arith}
use Rattle.hex_write.proofs.Records.{digits_none, digits_turn}
use Rattle.hex_write.proofs.record.put_bytes.Goals as goal

pub loop-k-init : goal.loop-k-init
loop-k-init c = (omega arith, refl, digits_none _ _ c.args.bytes.now)

pub loop-k-preserved : goal.loop-k-preserved
loop-k-preserved c =
    let v = c.loop-k in
    let k = c.put_byte in
    (omega arith, k.auto.text ∙ v.invariant.1, digits_turn _ _ _ _ _ v.k (omega arith) v.invariant.2 k.ensures)
