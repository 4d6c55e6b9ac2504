-- `derive_cs_data_layout` meets its contract. Assumes nothing.
use Rattle.std.specs.Prelude.{Option, Some, None, Result, Err}
use mathlib.Core.Path.{◌≡◌, sym, ◌∙◌}
use mathlib.Core.Bool.{Bool, true, false, ◌&&◌}
use Rattle.lists.proofs.Bools.{and_left, and_right}
use Rattle.slot.specs.declared.description.Description.{Description}
use Rattle.refusal.specs.declared.Refusal.{Refusal}
use Rattle.refusal.specs.declared.Refusal.TheVariants.{OutOfDomain}
use Rattle.addr_layout.specs.declared.layout.AddrLayout.{AddrLayout}
use Rattle.cs_pins.specs.Pins.{cs_search_in}
use Rattle.cs_data_layout.specs.Layout.{handed}
use Rattle.cs_data_layout.specs.Search.{given_in, earlier, cs_best, cs_data_answer_of, cs_data_answer}
use Rattle.cs_data_layout.specs.declared.layout.CsDataLayout.{CsDataLayout}
use Rattle.cs_data_layout.proofs.Searched.{handed_in, qualifiers_in_lem}
use Rattle.cs_data_layout.proofs.derive_cs_data_layout.Goals as goal

module _ (d : Description) (a : Option AddrLayout) (p q : Bool) (ep : p ≡ cs_search_in d) (eq : q ≡ given_in d a) where
  outside : p && q ≡ false → Err OutOfDomain ≡ cs_data_answer d a
  outside e = rw (← ep, ← eq, e)

  module _ (e : p && q ≡ true) (f : Option Refusal) (ef : f ≡ earlier d a) where
    within : (cs_search_in d ≡ true) × (given_in d a ≡ true)
    within = (sym ep ∙ and_left p q e, sym eq ∙ and_right p q e)

    refused_early : (why : Refusal) → f ≡ Some why → Err why ≡ cs_data_answer d a
    refused_early why h = rw (← ep, ← eq, e, ← ef, h)

    searched : (r : Result CsDataLayout Refusal) (l : AddrLayout) → f ≡ None → l ≡ handed a → r ≡ cs_data_answer_of d l (cs_best d l) → r ≡ cs_data_answer d a
    searched r l h i j = rw (← ep, ← eq, e, ← ef, h, ← i) j

pub search-requires : goal.search-requires
search-requires c =
    let a = c.args in
    let w = within a.d a.addr_layout _ _ c.number_pins-pins.ensures.verdict c.given_in.ensures c.if-not-pins-given_in.false _ c.earlier.ensures in
    let none = sym c.earlier.ensures ∙ c.in-None.is in
    rw c.handed.ensures (record { description = w.0; pins = c.number_pins-pins.ensures; handed = record { layout = handed_in a.d a.addr_layout w.1; qualifiers = qualifiers_in_lem a.d a.addr_layout w.1 none } })
