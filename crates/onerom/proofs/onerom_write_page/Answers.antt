-- `onerom_write_page` meets its contract. Assumes nothing.
use Rattle.std.specs.Prelude.{Err}
use mathlib.Core.Bool.{not}
use mathlib.Core.Path.{ap, ◌∙◌}
use Prim.Native.Nat.{ℕ}
use Rattle.refusal.specs.declared.Refusal.TheVariants.{OutOfDomain}
use Rattle.lists.proofs.Bools.{and_left}
use Rattle.addr_record.specs.AddrRecord.{layout_formed}
use Rattle.addr_record.proofs.Long.{formed-long}
use Rattle.cs_data_record.specs.CsDataRecord.{cs_data_formed}
use Rattle.hex_write.specs.Write.{wrote_as}
use Rattle.calls.specs.Calls.{returned}
use Rattle.calls.specs.Hex.{hex_write_result}
use Rattle.calls.specs.Page.{page_from, page_call}
use Rattle.onerom.proofs.Records.{passed, formed, not-formed}
use Rattle.onerom.proofs.onerom_write_page.Goals as goal

pub returns-then-not-formed : goal.returns-then-not-formed
unfolding page_call
returns-then-not-formed c =
    ap (λ (r : ℕ). returned r c.args.page.now) c.packed.ensures
    ∙ ap hex_write_result (not-formed _ (wrote_as (Err OutOfDomain) c.args.page.now) _ _ c.formed.ensures (ap not c.if-not-formed.true))

-- the address layout has the length of a record
pub hand_over-requires : goal.hand_over-requires
hand_over-requires c =
    formed-long c.args.addr_layout.now
    (and_left (layout_formed c.args.addr_layout.now) (cs_data_formed c.args.cs_data_layout.now)
    (passed _ _ c.formed.ensures (ap not c.if-not-formed.false)))

pub returns : goal.returns
unfolding page_call
returns c =
    c.hand_over.ensures
    ∙ ap hex_write_result
    (formed (page_from c.args.addr_layout.now c.args.cs_data_layout.now c.args.page.now) _ _ _ c.formed.ensures (ap not c.if-not-formed.false))
