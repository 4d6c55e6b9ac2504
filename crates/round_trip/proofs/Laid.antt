-- The layout that a search answers is that of the best choice, and so a sound one. Assumes nothing.
use Rattle.std.specs.Prelude.{Option, Some, None, Ok, Err, Result}
use mathlib.Core.Path.{◌≡◌, refl, ap, subst}
use mathlib.Core.Bool.{Bool, true, false, cond, ◌&&◌}
use Prim.Native.Nat.{ℕ}
use Rattle.lists.proofs.Loops.{zero_one}
use Rattle.slot.specs.declared.description.Description.{Description}
use Rattle.refusal.specs.declared.Refusal.{Refusal}
use Rattle.refusal.specs.declared.Refusal.TheVariants.{OutOfDomain}
use Rattle.listing.specs.Listing.{first_fault}
use Rattle.addr_layout.specs.Layout as addr-layout
use Rattle.addr_lines.specs.Lines.{addr_listed}
use Rattle.addr_layout.specs.Search as addr-search
use Rattle.addr_law.specs.Law as addr
use Rattle.addr_law.proofs.Law as addr-law
use Rattle.addr_layout.specs.declared.layout.AddrLayout.{AddrLayout}
use Rattle.cs_pins.specs.Pins.{cs_search_in}
use Rattle.cs_data_layout.specs.Layout as cs-layout
use Rattle.cs_data_layout.specs.Search as cs-search
use Rattle.cs_data_law.specs.Law as cs
use Rattle.cs_data_law.proofs.Law as cs-law
use Rattle.cs_data_layout.specs.declared.layout.CsDataLayout.{CsDataLayout}

-- an answer that is refused has no layout
pub refused_not_laid : {A : Type 0} (why : Refusal) (l : A) → ◌≡◌ {A = Result A Refusal} (Err why) (Ok l) → ⊥
refused_not_laid why l e = zero_one cc

module _ (d : Description) (l : AddrLayout) where
  by_best : addr.PastTests d → addr-search.addr_answer d ≡ Ok l → (c : ℕ) × addr.FoundBest d c l
  by_best past e = (addr-law.addr_demand d past).found-best l e

  by_fault : addr-search.addr_search_in d ≡ true → (f : Option Refusal) → first_fault (addr_listed d) ≡ f → addr-search.after_faults d f ≡ Ok l
      → addr-search.addr_answer d ≡ Ok l → (c : ℕ) × addr.FoundBest d c l
  by_fault i (Some why) q e a = absurd (refused_not_laid why l e)
  by_fault i None q e a = by_best (record { domain = i; no_fault = q }) a

  by_domain : (t : Bool) → addr-search.addr_search_in d ≡ t
      → cond t (addr-search.after_faults d (first_fault (addr_listed d))) (Err OutOfDomain) ≡ Ok l
      → addr-search.addr_answer d ≡ Ok l → (c : ℕ) × addr.FoundBest d c l
  by_domain false q e a = absurd (refused_not_laid OutOfDomain l e)
  by_domain true q e a = by_fault q (first_fault (addr_listed d)) refl e a

  pub addr-found : addr-search.addr_answer d ≡ Ok l → (c : ℕ) × addr.FoundBest d c l
  addr-found e = by_domain (addr-search.addr_search_in d) refl e e

-- the select search
module _ (d : Description) (g : Option AddrLayout) (l : CsDataLayout) where
  cs_by_best : cs.PastTests d g → cs-search.cs_data_answer d g ≡ Ok l → (c : ℕ) × cs.FoundBest d g c l
  cs_by_best past e = (cs-law.cs_data_demand d g past).found-best l e

  cs_by_fault : (cs_search_in d && cs-search.given_in d g) ≡ true → (f : Option Refusal) → cs-search.earlier d g ≡ f
      → cs-search.after_earlier d (cs-layout.handed g) f ≡ Ok l → cs-search.cs_data_answer d g ≡ Ok l → (c : ℕ) × cs.FoundBest d g c l
  cs_by_fault i (Some why) q e a = absurd (refused_not_laid why l e)
  cs_by_fault i None q e a = cs_by_best (record { domain = i; no_fault = q }) a

  cs_by_domain : (t : Bool) → (cs_search_in d && cs-search.given_in d g) ≡ t
      → cond t (cs-search.after_earlier d (cs-layout.handed g) (cs-search.earlier d g)) (Err OutOfDomain) ≡ Ok l
      → cs-search.cs_data_answer d g ≡ Ok l → (c : ℕ) × cs.FoundBest d g c l
  cs_by_domain false q e a = absurd (refused_not_laid OutOfDomain l e)
  cs_by_domain true q e a = cs_by_fault q (cs-search.earlier d g) refl e a

  pub cs_found : cs-search.cs_data_answer d g ≡ Ok l → (c : ℕ) × cs.FoundBest d g c l
  cs_found e = cs_by_domain (cs_search_in d && cs-search.given_in d g) refl e e
