-- `write_hex` meets its contract. Assumes nothing.
use mathlib.Core.Path.{◌≡◌, sym, ◌∙◌}
use mathlib.Core.Bool.{false}
use native.Mathlib.Omega.{arith}
use lib.ListN.{length}
use Rattle.hex_base.specs.Size.{too_long}
use Rattle.hex_write.proofs.Writes.{writes_none, writes_short, writes_all, write_room}
use Rattle.hex_write.proofs.Length.{length_law, pieces-length}
use Rattle.hex_write.proofs.write_hex.Goals.{Else-too_long}
use Rattle.hex_write.proofs.write_hex.Goals as goal

pub returns-then-too_long : goal.returns-then-too_long
returns-then-too_long c = writes_none _ _ (sym c.too_long.ensures ∙ c.if-too_long.true)

pub returns-then-text-n : goal.returns-then-text-n
returns-then-text-n c = writes_short _ c.args.text.now _ (let h : too_long (length c.args.chip.now) ≡ false = sym c.too_long.ensures ∙ c.if-too_long.false in h) c.text_length-n.ensures (omega arith)

pub put_chip-end-requires : goal.put_chip-end-requires
put_chip-end-requires c = write_room _ _ _ (let h : too_long (length c.args.chip.now) ≡ false = sym c.too_long.ensures ∙ c.if-too_long.false in h) c.text_length-n.ensures c.if-text-n.false

pub put-requires : goal.put-requires
put-requires c =
    let chip = c.args.chip.now in
    let k = c.put_chip-end in
    let l = k.auto.text in
    let e = k.ensures.value in
    omega (arith, length_law chip, pieces-length chip)

pub returns : goal.returns
returns c =
    let k = c.put_chip-end in
    writes_all _ _ _ (let h : too_long (length c.args.chip.now) ≡ false = sym c.too_long.ensures ∙ c.if-too_long.false in h) c.text_length-n.ensures c.if-text-n.false _ _ _ k.ensures.value k.ensures.text_after c.put.ensures.buffer_after
