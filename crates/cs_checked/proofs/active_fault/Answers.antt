-- `active_fault` meets its contract. Assumes nothing.
use Rattle.std.specs.Prelude.{Option, Some, None}
use Rattle.refusal.specs.declared.Refusal.{Refusal}
use mathlib.Core.Path.{◌≡◌, sym, ◌∙◌, ap}
use mathlib.Core.Bool.{false}
use mathlib.Core.List.{List, [], ◌∷◌, ◌++◌, append-nil}
use Prim.Native.Nat.{ℕ, ◌+◌, ◌≤◌}
use native.Mathlib.Omega.{arith}
use borrow.Author.Tests.{le-leb, lt-leb}
use lib.Dec.{leb}
use lib.ListN.{length, length-take, length-map, length-append}
use Rattle.lists.proofs.Lists.{mapped_length}
use Rattle.lists.proofs.Tab.{tab-length}
use Rattle.slot.specs.Description.{is_multi, chip0}
use Rattle.slot.specs.declared.description.Chip.{Chip}
use Rattle.slot.specs.declared.description.Description.{Description}
use Rattle.refusal.specs.First.{or_else, fault_if}
use Rattle.refusal.specs.declared.Refusal.TheVariants.{NoSelectLine}
use Rattle.refusal.proofs.Firsts.{or_assoc, or_end}
use Rattle.listing.specs.Listing.{fault_from, first_fault}
use Rattle.listing.specs.Design.Packed.{list_of}
use Rattle.listing.specs.declared.Listed.{Listed}
use Rattle.listing.proofs.Faults.{fault-joined}
use Rattle.cs_pins.specs.Pins.{data_listed, active_listed, select_listed, commoned_listed, numbered}
use Rattle.cs_checked.specs.Checked.{or_no_active, checked}
use Rattle.cs_checked.specs.Design.Selects.{pins_fault}
use borrow.Author.Rules.{rules}
use Rattle.cs_checked.proofs.active_fault.Goals as goal

-- where no line is active, the lack of one is the last fault
lacking : (f : Option Refusal) (actives : List Listed) (n m : ℕ) → n ≡ m + length actives
    → or_else (or_else f (first_fault actives)) (fault_if (leb n m) NoSelectLine) ≡ or_else f (first_fault (or_no_active actives))
unfolding or_no_active fault_from
lacking f [] n m e = rw (le-leb n m (omega arith)) (or_assoc f None (Some NoSelectLine))
lacking f (l ∷ ls) n m e = rw (lt-leb n m (omega arith)) (sym (or_end (or_else f (first_fault (l ∷ ls)))))

module _ (d : Description) (e : is_multi d.set_type ≡ false) where
  numbered_is : numbered d ≡ data_listed d ++ active_listed d (chip0 d).control.count
  unfolding numbered select_listed commoned_listed
  numbered_is = rw (e, append-nil)

  checked_is : checked d ≡ or_no_active (active_listed d (chip0 d).control.count)
  unfolding checked
  checked_is = rw e

  data-length : length (data_listed d) ≡ (chip0 d).num_data_pins
  unfolding data_listed
  data-length = tab-length _ _

  faults : (ls : List Listed) (n m : ℕ) → ls ≡ numbered d → n ≡ length ls → m ≡ (chip0 d).num_data_pins → or_else (first_fault ls) (fault_if (leb n m) NoSelectLine) ≡ pins_fault d
  faults ls n m h i j =
      let both : ls ≡ data_listed d ++ active_listed d (chip0 d).control.count = h ∙ numbered_is in
      let sum : length (data_listed d ++ active_listed d (chip0 d).control.count) ≡ m + length (active_listed d (chip0 d).control.count) = simp length-append (omega (arith, data-length, j)) in
      rw (both, fault-joined, checked_is) (lacking (first_fault (data_listed d)) (active_listed d (chip0 d).control.count) n m (i ∙ ap length both ∙ sum))

pub returns : goal.returns
returns c =
    let a = c.args in
    let long : length a.l.pins ≡ 30 = search (mapped_length, rules) in
    let few : a.l.count ≤ 30 = c.requires.0 in
    let n : a.l.count ≡ length (list_of a.l) = simp (length-take, length-map) (omega arith) in
    rw (c.or.ensures, c.then_some.ensures, c.first_fault.ensures)
    (faults a.d c.requires.2 (list_of a.l) _ _ c.requires.1 n (ap (λ (x : Chip). x.num_data_pins) c.chip0-chip.ensures))
