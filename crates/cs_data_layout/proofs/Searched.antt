-- What the parts of the search come to together. Assumes nothing.
use Rattle.std.specs.Prelude.{Option, Some, None, Result}
use mathlib.Core.Path.{◌≡◌, refl}
use mathlib.Core.Bool.{Bool, true, false, cond}
use mathlib.Core.List.{List}
use Prim.Native.Nat.{ℕ, ◌^◌, ◌≤◌}
use native.Mathlib.Omega.{arith}
use lib.Dec.{ltb}
use lib.ListN.{length, length-append}
use borrow.Author.Tests.{ltb-false}
use Rattle.lists.specs.Each.{each}
use Rattle.lists.proofs.Bools.{and_left, and_right}
use Rattle.lists.proofs.Tab.{tab-length}
use Rattle.lists.proofs.Loops.{zero_one}
use Rattle.slot.specs.Description.{is_multi}
use Rattle.slot.specs.declared.description.Description.{Description}
use Rattle.refusal.specs.declared.Refusal.{Refusal}
use Rattle.refusal.specs.declared.Refusal.TheVariants.{MissingAddrPinGpios}
use Rattle.domain.specs.Domain.{qualifiers_in}
use Rattle.listing.specs.Listing.{twos}
use Rattle.listing.specs.declared.Listed.{Listed}
use Rattle.refusal.proofs.Firsts.{or_none}
use Rattle.search.specs.Search.{best}
use Rattle.search.specs.declared.Found.{Found}
use Rattle.addr_layout.specs.Layout.{no_layout, layout_in}
use Rattle.addr_layout.specs.declared.layout.AddrLayout.{AddrLayout}
use Rattle.cs_pins.specs.Pins.{data_listed, numbered}
use Rattle.cs_choices.specs.Sets.{verdict_on}
use Rattle.cs_verdict.specs.Verdict.{verdict_trial}
use Rattle.cs_choices.specs.Nothing.{nothing_fits}
use Rattle.cs_choices.specs.declared.choices.Fixed.{Fixed}
use Rattle.cs_data_layout.specs.Layout.{handed}
use Rattle.cs_data_layout.specs.Choices.{num_data, fixed_of, excess_set, qualifier_set, ignored_set}
use Rattle.cs_data_layout.specs.Search.{given_in, missing_layout, earlier, cs_best, or_no_layout, none_fits}
use Rattle.cs_data_layout.specs.declared.layout.CsDataLayout.{CsDataLayout}

-- the data pins are among the numbered ones
pub data-numbered : (d : Description) → num_data d ≤ length (numbered d)
unfolding numbered data_listed
data-numbered d = simp (length-append, tab-length) (omega arith)

module _ (d : Description) (h : AddrLayout) (ls : List Listed) (f : Fixed) (bits : ℕ) (el : ls ≡ numbered d) (ef : f ≡ fixed_of d h) (eb : bits ≡ twos ls) where
  pub best_is : (r : Option Found) → r ≡ best (λ c. verdict_trial (verdict_on ls f c)) (2 ^ bits) → r ≡ cs_best d h
  unfolding cs_best
  best_is r e = rw (e, eb, el, ef)

  pub none_is : (r : Result CsDataLayout Refusal) (w : Option Refusal) (ignored : ℕ) → ignored ≡ ignored_set d → w ≡ nothing_fits ignored (λ c. verdict_on ls f c) (2 ^ bits) → r ≡ or_no_layout w → r ≡ none_fits d h
  unfolding none_fits
  none_is r w ignored i e o = rw (o, e, i, eb, el, ef)

pub fixed_is : (d : Description) (h : AddrLayout) (m : Bool) (n x q : ℕ) → m ≡ is_multi d.set_type → n ≡ num_data d → x ≡ excess_set h → q ≡ qualifier_set d h
    → ◌≡◌ {A = Fixed} (record { multi = m; num_data = n; excess = x; qualifiers = q }) (fixed_of d h)
fixed_is d h m n x q em en ex eq = rw (em, en, ex, eq)

-- without a refusal, a layout that is not given goes with no qualifiers
not-missing : (n : ℕ) (r : Refusal) (t : Bool) → ltb 0 n ≡ t → cond t (Some r) None ≡ None → n ≡ 0
not-missing n r true l e = absurd (zero_one cc)
not-missing n r false l e = omega (arith, ltb-false 0 n l)

no_list : (d : Description) (l : AddrLayout) → d.num_qualifiers ≡ 0 → qualifiers_in d.qualifiers d.num_qualifiers l.gpios l.num_lines ≡ true
unfolding each
no_list d l e = rw e

-- a layout that is given is in the domain, and one that is not has no line
module _ (d : Description) where
  abbrev list_in : AddrLayout → Bool
  list_in l = qualifiers_in d.qualifiers d.num_qualifiers l.gpios l.num_lines

  pub handed_in : (a : Option AddrLayout) → given_in d a ≡ true → layout_in (handed a) ≡ true
  unfolding layout_in each
  handed_in None e = refl
  handed_in (Some l) e = and_left (layout_in l) (list_in l) e

  pub qualifiers_in_lem : (a : Option AddrLayout) → given_in d a ≡ true → earlier d a ≡ None → list_in (handed a) ≡ true
  unfolding earlier
  qualifiers_in_lem None e n = no_list d no_layout (not-missing d.num_qualifiers MissingAddrPinGpios (ltb 0 d.num_qualifiers) refl (or_none (missing_layout d None) _ n).0)
  qualifiers_in_lem (Some l) e n = and_right (layout_in l) (list_in l) e
