-- Past the earlier tests each numbered pin has a candidate, and some pin selects. Assumes nothing.
use Rattle.std.specs.Prelude.{None, Option}
use mathlib.Core.Path.{◌≡◌, refl}
use mathlib.Core.Bool.{Bool, true, false}
use mathlib.Core.List.{List, [], ◌∷◌, ◌++◌}
use Prim.Native.Nat.{◌<◌}
use native.Mathlib.Omega.{arith}
use lib.Dec.{leb}
use lib.ListN.{length}
use Rattle.lists.proofs.Loops.{zero_one}
use Rattle.slot.specs.Description.{is_multi, chip0}
use Rattle.slot.specs.declared.description.Description.{Description}
use Rattle.listing.specs.Listing.{x_pins, fault_from, first_fault}
use Rattle.listing.specs.declared.Listed.{Listed}
use Rattle.listing.proofs.Faults.{append-none, none-append}
use Rattle.refusal.proofs.Firsts.{or_none}
use Rattle.cs_pins.specs.Pins.{data_listed, active_listed, kind_listed, select_listed, multi_commoned, commoned_listed, numbered}
use Rattle.cs_checked.specs.Checked.{or_no_active, ignored_listed, multi_checked, checked}
use Rattle.cs_data_layout.specs.Layout.{handed}
use Rattle.cs_data_layout.specs.Search.{missing_layout, rom_too_large, earlier}
use Rattle.addr_layout.specs.declared.layout.AddrLayout.{AddrLayout}

-- the pins of a list that must not be empty
active-none : (ls : List Listed) → first_fault (or_no_active ls) ≡ None → first_fault ls ≡ None
unfolding or_no_active fault_from
active-none [] e = refl
active-none (l ∷ ls) e = e

active-some : (ls : List Listed) → first_fault (or_no_active ls) ≡ None → 0 < length ls
unfolding or_no_active fault_from
active-some [] e = absurd (zero_one cc)
active-some (l ∷ ls) e = omega arith

module _ (d : Description) where
  abbrev select_line : List Listed
  select_line = kind_listed d d.multi.select ∷ []

  abbrev xs : List Listed
  xs = x_pins d.board (leb 2 d.num_chips) (leb 3 d.num_chips)

  -- the select and commoned pins are among those checked
  select-none : (m : Bool) → is_multi d.set_type ≡ m → first_fault (checked d) ≡ None → (first_fault (select_listed d) ≡ None) × (first_fault (commoned_listed d) ≡ None)
  unfolding select_listed commoned_listed checked multi_checked fault_from
  select-none true m e =
      let all : first_fault (((select_line ++ multi_commoned d) ++ ignored_listed d) ++ xs) ≡ None = rw m at e in
      let (lines, x) = append-none ((select_line ++ multi_commoned d) ++ ignored_listed d) xs all in
      let (s, c) = append-none select_line (multi_commoned d) (append-none (select_line ++ multi_commoned d) (ignored_listed d) lines).0 in
      rw m (none-append select_line xs s x, c)
  select-none false m e =
      let active : first_fault (or_no_active (active_listed d (chip0 d).control.count)) ≡ None = rw m at e in
      rw m (active-none (active_listed d (chip0 d).control.count) active, refl)

  -- and in any set but Multi one of them is active
  select-some : (m : Bool) → is_multi d.set_type ≡ m → first_fault (checked d) ≡ None → 0 < length (select_listed d)
  unfolding select_listed checked
  select-some true m e = rw m (omega arith)
  select-some false m e =
      let active : first_fault (or_no_active (active_listed d (chip0 d).control.count)) ≡ None = rw m at e in
      rw m (active-some (active_listed d (chip0 d).control.count) active)

  -- past the earlier tests no data pin and no pin that is checked has a fault
  faults_none : (a : Option AddrLayout) → earlier d a ≡ None → (first_fault (data_listed d) ≡ None) × (first_fault (checked d) ≡ None)
  unfolding earlier
  faults_none a e = or_none (first_fault (data_listed d)) _ (or_none (rom_too_large d (handed a)) _ (or_none (missing_layout d a) _ e).1).1

  -- so that some pin selects
  pub some-select : (a : Option AddrLayout) → earlier d a ≡ None → 0 < length (select_listed d)
  some-select a e = select-some (is_multi d.set_type) refl (faults_none a e).1

  -- and no numbered pin has a fault
  pub numbered-none : (a : Option AddrLayout) → earlier d a ≡ None → first_fault (numbered d) ≡ None
  unfolding numbered
  numbered-none a e =
      let (ds, cs) = faults_none a e in
      let (s, c) = select-none (is_multi d.set_type) refl cs in
      none-append (data_listed d ++ select_listed d) (commoned_listed d) (none-append (data_listed d) (select_listed d) ds s) c
