-- `list_data` meets its contract. The loop's invariant: the data pins passed are listed. Assumes nothing.
use mathlib.Core.Path.{◌≡◌, refl, ap, ◌∙◌}
use native.Mathlib.Omega.{arith}
use Rattle.lists.proofs.Lists.{mapped_length}
use Rattle.slot.specs.declared.description.Chip.{Chip}
use Rattle.listing.proofs.Pushed.{behind-none, behind-turn, behind_to}
use Rattle.cs_pins.specs.Pins.{data_listed}
use borrow.Author.Rules.{rules}
use Rattle.cs_pins.proofs.list_data.Goals as goal

pub loop-k-init : goal.loop-k-init
loop-k-init c =
    let e = ap (λ (x : Chip). x.num_data_pins) c.chip0-chip.ensures in
    (omega arith, omega (arith, e), e, behind-none (search (mapped_length, rules)) refl refl)

pub loop-k-preserved : goal.loop-k-preserved
loop-k-preserved c =
    let v = c.loop-k in
    (omega arith, v.invariant.1, v.invariant.2, behind-turn _ v.invariant.3 (omega arith) refl (c.pin_listed.ensures ∙ rw c.data_pin.ensures))

pub returns : goal.returns
unfolding data_listed
returns c =
    let v = c.loop-k in
    let e : v.k ≡ c.chip0-chip.result.num_data_pins = omega arith in
    (behind_to v.invariant.3 e (e ∙ v.invariant.2), v.invariant.1)
