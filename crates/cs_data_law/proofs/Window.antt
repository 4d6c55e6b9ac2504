-- What base and window of a choice's layout keep. Assumes nothing.
use Rattle.std.specs.Prelude.{Option}
use mathlib.Core.Path.{◌≡◌, refl, sym, ◌∙◌, subst}
use mathlib.Core.Bool.{Bool, true, false, cond}
use mathlib.Core.Logic.{◌⊎◌, inl, inr}
use Prim.Native.Nat.{ℕ, ◌≤◌, ◌<◌}
use native.Mathlib.Omega.{arith}
use lib.Bits.{bit_or}
use lib.Dec.{ltb}
use borrow.Author.Tests.{ltb-true, ltb-false}
use Rattle.gpio.specs.Law.{In}
use Rattle.gpio.specs.Set.{lowest}
use Rattle.gpio.proofs.Members.{held_low, held_of}
use Rattle.slot.specs.declared.description.Description.{Description}
use Rattle.domain.proofs.Bounds.{chip0_in}
use Rattle.cs_pins.specs.Pins.{numbered}
use Rattle.cs_data_layout.specs.Layout.{handed}
use Rattle.cs_data_layout.specs.Choices.{num_data, qualifier_set, cs_data_layout_of}
use Rattle.addr_layout.specs.declared.layout.AddrLayout.{AddrLayout}
use Rattle.cs_data_layout.specs.declared.layout.CsDataLayout.{CsDataLayout}
use Rattle.cs_data_law.specs.Law.{PastTests, choice, data_picked, select_picked, all_picked, Fit}
use Rattle.cs_data_law.specs.Sound.{ToHold, of_data, of_selects, of_qualifiers, SoundWindow}
use Rattle.cs_data_law.proofs.Gap.{lowest_has}
use Rattle.cs_data_law.proofs.Lines.{in_domain}
use Rattle.cs_data_law.proofs.Parts.{in_window, select-all, qualifier_all, all-bits}
use Rattle.cs_data_law.proofs.Qualifiers.{held_qualifier, qualifier_held}
use Rattle.cs_data_law.proofs.Selects.{or_in, select-held, held-select}
use Rattle.cs_data_law.proofs.Sound.{data_is, data-held}

module _ (d : Description) (a : Option AddrLayout) (past : PastTests d a) (c : ℕ) where
  abbrev laid : CsDataLayout
  laid = cs_data_layout_of d (handed a) (numbered d) c

  abbrev all : ℕ
  all = all_picked d a (choice d c)

  -- a GPIO is in the set of all exactly if the window has to hold it
  hold_all : (g : ℕ) → ToHold d a laid g → In all g
  hold_all g (of_data k l e) = subst (In all) (sym (data_is d a past c k l) ∙ e) (data-held d a past c k l)
  hold_all g (of_selects s) = select-all d a (choice d c) g (select-held d a past c g s)
  hold_all g (of_qualifiers q) = qualifier_all d a (choice d c) g (qualifier_held d a past g q)

  all_hold : (g : ℕ) → In all g → ToHold d a laid g
  all_hold g h = elim (or_in (bit_or (data_picked d (choice d c)) (select_picked d a (choice d c))) (qualifier_set d (handed a)) g h) [
    | inl b ↦ elim (or_in (data_picked d (choice d c)) (select_picked d a (choice d c)) g b) [
      | inl i ↦ let (k, l, e) = held_of (num_data d) (choice d c) g i in of_data k l (data_is d a past c k l ∙ e)
      | inr i ↦ of_selects (held-select d a past c g i)
    ]
    | inr q ↦ of_qualifiers (held_qualifier d a past g q)
  ]

  low_held : In all (lowest all)
  low_held =
      let some = (chip0_in d (in_domain d a past)).data-pins.0 in
      lowest_has all (choice d c 0) (all-bits d a past c) (data-held d a past c 0 some)

  base_by : (t : Bool) → ltb (lowest all) 16 ≡ t
      → ((◌≡◌ {A = ℕ} (cond t 0 16) 0) × ((g : ℕ) × (g < 16) × ToHold d a laid g)) ⊎ ((◌≡◌ {A = ℕ} (cond t 0 16) 16) × ((g : ℕ) → ToHold d a laid g → 16 ≤ g))
  base_by true e = inl (refl, (lowest all, ltb-true (lowest all) 16 e, all_hold (lowest all) low_held))
  base_by false e = inr (refl, λ g h. omega (arith, ltb-false (lowest all) 16 e, held_low all g (hold_all g h)))

  pub sound-window : Fit d a (choice d c) → SoundWindow d a laid
  sound-window fit = record {
    base = base_by (ltb (lowest all) 16) refl;
    inside = λ g h. in_window all g (all-bits d a past c) fit.window (hold_all g h);
  }
