-- `onerom_derive_cs_data_layout` meets its contract. Assumes nothing.
use Rattle.std.specs.Prelude.{Option, Result}
use mathlib.Core.Path.{◌≡◌, ap, ◌∙◌}
use mathlib.Core.Bool.{Bool, false, not}
use mathlib.Core.List.{List}
use Prim.Native.Nat.{ℕ}
use Rattle.description_record.specs.Record.{described, well_formed, decoded_of}
use Rattle.slot.specs.declared.description.Description.{Description}
use Rattle.refusal.specs.declared.Refusal.TheVariants.{OutOfDomain}
use Rattle.refusal.specs.declared.Refusal.{Refusal}
use Rattle.addr_layout.specs.declared.layout.AddrLayout.{AddrLayout}
use Rattle.cs_data_layout.specs.Search.{cs_data_answer}
use Rattle.cs_data_layout.specs.declared.layout.CsDataLayout.{CsDataLayout}
use Rattle.addr_record.specs.AddrRecord.{given_at}
use Rattle.calls.specs.Calls.{returned, search_result, call_refused, if_record, cs_data_found, cs_data_call}
use Rattle.onerom.proofs.Records.{described_so, not-described, formed, not-formed}
use Rattle.onerom.proofs.onerom_derive_cs_data_layout.Goals as goal

searched : (b l buffer : List ℕ) (t : Bool) → t ≡ well_formed b → not t ≡ false → (d : Description) → d ≡ described b → (g : Option AddrLayout) → g ≡ given_at l
    → (a : Result CsDataLayout Refusal) → a ≡ cs_data_answer d g
    → cs_data_found a buffer ≡ if_record (λ d. cs_data_found (cs_data_answer d (given_at l)) buffer) (λ why. call_refused why buffer) (decoded_of b)
searched b l buffer t e n d ed g eg a q =
    rw (q, ed, eg) (described_so (λ d. cs_data_found (cs_data_answer d (given_at l)) buffer) (λ why. call_refused why buffer) b t e n)

pub returns-then-not-given_formed : goal.returns-then-not-given_formed
unfolding cs_data_call
returns-then-not-given_formed c =
    ap (λ (r : ℕ). returned r c.args.layout.now) c.packed.ensures
    ∙ ap search_result (not-formed _ (call_refused OutOfDomain c.args.layout.now) _ _ c.given_formed.ensures (ap not c.if-not-given_formed.true))

pub returns-then-not-formed : goal.returns-then-not-formed
unfolding cs_data_call
returns-then-not-formed c =
    ap (λ (r : ℕ). returned r c.args.layout.now) c.packed-then-not-formed.ensures
    ∙ ap search_result
    (not-described (λ d. cs_data_found (cs_data_answer d (given_at c.args.addr_layout.now)) c.args.layout.now) (λ why. call_refused why c.args.layout.now) c.args.description.now _ c.formed.ensures (ap not c.if-not-formed.true)
    ∙ formed _ _ _ _ c.given_formed.ensures (ap not c.if-not-given_formed.false))

pub returns : goal.returns
unfolding cs_data_call
returns c =
    c.hand_over.ensures
    ∙ ap search_result
    (searched c.args.description.now c.args.addr_layout.now c.args.layout.now _ c.formed.ensures
    (ap not c.if-not-formed.false) _ c.description_at-d.ensures _
    c.given_at.ensures _ c.derive_cs_data_layout.ensures
    ∙ formed _ _ _ _ c.given_formed.ensures (ap not c.if-not-given_formed.false))
