-- `onerom_well_wired` meets its contract. Assumes nothing.
use mathlib.Core.Bool.{not}
use mathlib.Core.Path.{◌∙◌, ap}
use Prim.Native.Nat.{ℕ}
use Rattle.slot.specs.declared.description.Description.{Description}
use Rattle.refusal.specs.declared.Refusal.{Refusal}
use Rattle.refusal.specs.declared.Refusal.TheVariants.{OutOfDomain}
use Rattle.addr_record.proofs.Long.{formed-long}
use Rattle.calls.specs.Packed.{packed}
use Rattle.onerom.specs.Wired.{wired_from, wired_call}
use Rattle.onerom.proofs.Records.{taken, no_record, passed, formed, not-formed}
use Rattle.onerom.proofs.onerom_well_wired.Goals as goal

abbrev refuse : Refusal → ℕ
refuse why = packed why

pub returns-then-not-formed : goal.returns-then-not-formed
unfolding wired_call
returns-then-not-formed c = c.packed.ensures ∙ not-formed _ (refuse OutOfDomain) _ _ c.formed.ensures (ap not c.if-not-formed.true)

-- the layout has the length of a record
pub tested-requires : goal.tested-requires
tested-requires c =
    formed-long c.args.addr_layout.now (passed _ _ c.formed.ensures (ap not c.if-not-formed.false))

pub returns-in-Ok : goal.returns-in-Ok
unfolding wired_call
returns-in-Ok c =
    c.tested.ensures
    ∙ taken ((λ (d : Description). wired_from d c.args.addr_layout.now)) refuse _ _ c.decode-decoded.ensures c.in-Ok.is
    ∙ formed _ _ _ _ c.formed.ensures (ap not c.if-not-formed.false)

pub returns-in-Err : goal.returns-in-Err
unfolding wired_call
returns-in-Err c =
    c.packed-in-Err.ensures
    ∙ no_record ((λ (d : Description). wired_from d c.args.addr_layout.now)) refuse _ _ c.decode-decoded.ensures _ c.in-Err.is
    ∙ formed _ _ _ _ c.formed.ensures (ap not c.if-not-formed.false)
