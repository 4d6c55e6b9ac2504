-- `put_chip` meets its contract. The loop's invariant: the records passed are laid over the text's bytes. Assumes nothing.
use mathlib.Core.Path.{refl, ◌∙◌}
use native.Mathlib.Omega.{arith}
use Rattle.hex_write.proofs.Chips.{chip-none, chip-turn, chip-room}
use Rattle.hex_write.proofs.put_chip.Goals as goal

pub loop-k-init : goal.loop-k-init
loop-k-init c = (omega arith, refl, chip-none _ _)

pub put_ahead-at-requires : goal.put_ahead-at-requires
put_ahead-at-requires c =
    let v = c.loop-k in
    let r = chip-room c.args.chip.now v.k (omega arith) in
    record { small = omega arith; room = omega arith }

pub put_data-at-requires : goal.put_data-at-requires
put_data-at-requires c =
    let v = c.loop-k in
    let k = c.put_ahead-at in
    let l = k.auto.text in
    let e = k.ensures.value in
    let r = chip-room c.args.chip.now v.k (omega arith) in
    record { within = omega arith; small = omega arith; room = omega arith }

pub loop-k-preserved : goal.loop-k-preserved
loop-k-preserved c =
    let v = c.loop-k in
    let k = c.put_ahead-at in
    let d = c.put_data-at in
    (omega arith, d.auto.text ∙ k.auto.text ∙ v.invariant.1, chip-turn _ _ _ _ _ _ _ _ _ v.invariant.2 k.ensures.value k.ensures.text_after d.ensures.value d.ensures.text_after)
