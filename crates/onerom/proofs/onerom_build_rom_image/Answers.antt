-- `onerom_build_rom_image` meets its contract. Assumes nothing.
use mathlib.Core.Bool.{not}
use mathlib.Core.Path.{ap, ◌∙◌}
use Prim.Native.Nat.{ℕ}
use Rattle.slot.specs.declared.description.Description.{Description}
use Rattle.refusal.specs.declared.Refusal.{Refusal}
use Rattle.refusal.specs.declared.Refusal.TheVariants.{OutOfDomain}
use Rattle.lists.proofs.Bools.{and_left}
use Rattle.addr_record.proofs.Long.{formed-long}
use Rattle.calls.specs.Order.{order_at}
use Rattle.calls.specs.Calls.{returned, build_from, build_refused, build_call, build_result}
use Rattle.onerom.proofs.Records.{taken, no_record, passed, formed, not-formed}
use Rattle.onerom.proofs.onerom_build_rom_image.Goals as goal

pub returns-then-not-formed : goal.returns-then-not-formed
unfolding build_call
returns-then-not-formed c =
    ap (λ (r : ℕ). returned r c.args.table.now) c.packed.ensures
    ∙ ap build_result (not-formed _ ((λ (why : Refusal). build_refused why c.args.table.now) OutOfDomain) _ _ c.formed.ensures (ap not c.if-not-formed.true))

-- the address layout has the length of a record
pub hand_over-requires : goal.hand_over-requires
hand_over-requires c =
    formed-long c.args.addr_layout.now
    (and_left _ _ (and_left _ _ (and_left _ _ (passed _ _ c.formed.ensures (ap not c.if-not-formed.false)))))

pub returns-in-Ok : goal.returns-in-Ok
unfolding build_call
returns-in-Ok c =
    c.hand_over.ensures
    ∙ ap build_result
    (taken ((λ (d : Description). build_from (order_at c.args.order) d c.args.addr_layout.now c.args.cs_data_layout.now c.args.spans.now c.args.images.now c.args.table.now)) ((λ (why : Refusal). build_refused why c.args.table.now)) c.args.description.now _ c.decode-decoded.ensures c.in-Ok.is
    ∙ formed _ _ _ _ c.formed.ensures (ap not c.if-not-formed.false))

pub returns-in-Err : goal.returns-in-Err
unfolding build_call
returns-in-Err c =
    ap (λ (r : ℕ). returned r c.args.table.now) c.packed-in-Err.ensures
    ∙ ap build_result
    (no_record ((λ (d : Description). build_from (order_at c.args.order) d c.args.addr_layout.now c.args.cs_data_layout.now c.args.spans.now c.args.images.now c.args.table.now)) ((λ (why : Refusal). build_refused why c.args.table.now)) c.args.description.now _ c.decode-decoded.ensures _ c.in-Err.is
    ∙ formed _ _ _ _ c.formed.ensures (ap not c.if-not-formed.false))
