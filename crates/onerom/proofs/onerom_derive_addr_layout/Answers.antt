-- `onerom_derive_addr_layout` meets its contract. Assumes nothing.
use Rattle.std.specs.Prelude.{Result}
use mathlib.Core.Path.{◌≡◌, ap, ◌∙◌}
use mathlib.Core.Bool.{Bool, false, not}
use mathlib.Core.List.{List}
use Prim.Native.Nat.{ℕ}
use Rattle.description_record.specs.Record.{described, well_formed}
use Rattle.slot.specs.declared.description.Description.{Description}
use Rattle.refusal.specs.declared.Refusal.{Refusal}
use Rattle.addr_layout.specs.Search.{addr_answer}
use Rattle.addr_layout.specs.declared.layout.AddrLayout.{AddrLayout}
use Rattle.calls.specs.Calls.{returned, search_result, call_refused, addr_found, addr_call}
use Rattle.onerom.proofs.Records.{described_so, not-described}
use Rattle.onerom.proofs.onerom_derive_addr_layout.Goals as goal

searched : (b buffer : List ℕ) (t : Bool) → t ≡ well_formed b → not t ≡ false → (d : Description) → d ≡ described b → (a : Result AddrLayout Refusal) → a ≡ addr_answer d
    → addr_found a buffer ≡ addr_call b buffer
unfolding addr_call
searched b buffer t e n d ed a q =
    ap (λ (x : Result AddrLayout Refusal). addr_found x buffer) (q ∙ ap addr_answer ed)
    ∙ described_so (λ d. addr_found (addr_answer d) buffer) (λ why. call_refused why buffer) b t e n

pub returns-then-not-formed : goal.returns-then-not-formed
unfolding addr_call
returns-then-not-formed c =
    ap (λ (r : ℕ). returned r c.args.layout.now) c.packed.ensures
    ∙ ap search_result
    (not-described (λ d. addr_found (addr_answer d) c.args.layout.now) (λ why. call_refused why c.args.layout.now) c.args.description.now _
    c.formed.ensures (ap not c.if-not-formed.true))

pub returns : goal.returns
returns c =
    c.hand_over.ensures
    ∙ ap search_result
    (searched c.args.description.now c.args.layout.now _ c.formed.ensures (ap not c.if-not-formed.false) _
    c.description_at-d.ensures _ c.derive_addr_layout.ensures)
