-- `list_active` meets its contract. The loop's invariant: the active ones of the lines passed are listed. Assumes nothing.
use mathlib.Core.Path.{◌≡◌, ap, ◌∙◌}
use mathlib.Core.List.{List, ◌++◌, append-nil, append_assoc}
use Prim.Native.Nat.{ℕ, ◌+◌}
use native.Mathlib.Numerals.{add-one}
use native.Mathlib.Omega.{arith}
use lib.ListN.{length-set}
use Rattle.lists.proofs.Lists.{mapped_length}
use Rattle.slot.specs.Description.{line_at}
use Rattle.slot.specs.declared.description.Chip.{Chip}
use Rattle.slot.specs.declared.description.ControlLine.{ControlLine}
use Rattle.slot.specs.declared.description.ControlLines.{ControlLines}
use Rattle.slot.specs.declared.description.Description.{Description}
use Rattle.listing.specs.Design.Packed.{list_of}
use Rattle.listing.proofs.Pushed.{stored_if}
use Rattle.listing.specs.declared.Listed.{Listed}
use Rattle.cs_pins.specs.Pins.{pin_listed, active, if_active, active_listed}
use borrow.Author.Rules.{rules}
use Rattle.cs_pins.proofs.list_active.Goals as goal

first : (d : Description) (ls : List Listed) → ls ≡ ls ++ active_listed d 0
unfolding active_listed
first d ls = rw append-nil

turn : (d : Description) (k : ℕ) (before ls ms : List Listed) → ls ≡ before ++ active_listed d k → ms ≡ ls ++ if_active d k
    → ms ≡ before ++ active_listed d (k + 1)
unfolding active_listed
turn d k before ls ms e h = rw (add-one, h, e, append_assoc)

pub loop-k-init : goal.loop-k-init
loop-k-init c =
    let e = ap (λ (x : Chip). x.control) c.chip0-chip.ensures in
    let n = ap (λ (x : ControlLines). x.count) e in
    (omega arith, omega (arith, n), n, e, omega arith, omega arith, search (mapped_length, rules), first _ _)

pub loop-k-preserved : goal.loop-k-preserved
loop-k-preserved c =
    let v = c.loop-k in
    let d = c.args.d in
    let before = c.args.before in
    let line = c.control_line-line.ensures ∙ ap (λ (x : ControlLines). line_at x v.k) v.invariant.3 in
    let pin = c.pin_listed.ensures ∙ ap (λ (x : ControlLine). pin_listed d x.pin) line in (
      omega arith,
      v.invariant.1,
      v.invariant.2,
      v.invariant.3,
      v.invariant.4,
      omega (arith, c.one_if.ensures.upper_bound),
      simp length-set v.invariant.6,
      turn d _ (list_of before) _ _ v.invariant.7 (stored_if (active d v.k) v.n _ _ _ v.pins (omega arith) (c.one_if.ensures.value ∙ rw c.line_active.ensures) pin),
    )
