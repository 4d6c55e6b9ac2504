-- `description_in` meets its contract. Assumes nothing.
use mathlib.Core.Path.{◌≡◌, sym, ◌∙◌, ap}
use mir.Syntax.{w8}
use mir.Val.{to_z, of_z}
use Rattle.slot.specs.SlotContext.{raised_of}
use Rattle.domain.specs.Domain.{slot_in, description_in}
use borrow.Author.Rules.{rules}
use Rattle.domain.proofs.description.description_in.Goals as goal

pub returns-then-not-board_in : goal.returns-then-not-board_in
unfolding description_in slot_in
returns-then-not-board_in c = rw (sym c.board_in.ensures ∙ c.if-not-board_in.true)

pub returns : goal.returns
unfolding description_in slot_in
returns c =
    -- the offset is a signed byte
    let back : to_z w8 (of_z w8 c.args.d.pin_offset) ≡ c.args.d.pin_offset = search rules in
    let e : c.raised-offset_in.result ≡ raised_of c.args.d.pin_offset = c.raised-offset_in.ensures ∙ ap raised_of back in
    rw (
      sym c.board_in.ensures ∙ c.if-not-board_in.false,
      c.package_in.ensures,
      c.chips_in.ensures,
      e,
      c.is_multi.ensures,
      c.multi_in.ensures,
    )
