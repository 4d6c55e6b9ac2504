-- Demand 2 of the select search, over its call. Assumes nothing.
use Rattle.std.specs.Prelude.{Ok, Err, Option, Result}
use mathlib.Core.Path.{◌≡◌, refl, sym, ◌∙◌, ap, subst}
use mathlib.Core.Bool.{Bool, true, false}
use mathlib.Core.List.{List}
use mathlib.Core.Logic.{◌⊎◌, inl, inr}
use Prim.Native.Nat.{ℕ, suc, ◌≤◌, ◌<◌}
use native.Mathlib.Nat.{lt_of_not-le}
use native.Mathlib.Omega.{arith}
use lib.Dec.{ltb}
use lib.ListN.{length, take}
use borrow.Author.Tests.{ltb-true, ltb-false, le-ltb}
use Rattle.slot.specs.declared.description.Description.{Description}
use Rattle.refusal.specs.Refusal.{number_of}
use Rattle.refusal.specs.declared.Refusal.{Refusal}
use Rattle.cs_data_layout.specs.Layout.{handed}
use Rattle.cs_data_layout.specs.Search.{cs_data_answer}
use Rattle.addr_layout.specs.declared.layout.AddrLayout.{AddrLayout}
use Rattle.cs_data_layout.specs.declared.layout.CsDataLayout.{CsDataLayout}
use Rattle.cs_data_law.specs.Law as select
use Rattle.cs_data_law.proofs.Law.{neither-below, cs_data_demand}
use Rattle.cs_data_record.specs.CsDataRecord.{cs_data_size, cs_data_at, ValuedCsData}
use Rattle.cs_data_record.proofs.Back.{cs_data_back}
use Rattle.addr_record.specs.AddrRecord.{given_at}
use Rattle.calls.specs.Packed.{packed_code, result_of}
use Rattle.calls.specs.Calls.{Answered, cs_data_found, cs_data_call}
use Rattle.calls.proofs.Law.{done_alone}
use Rattle.demands.specs.Refused.{number_in}
use Rattle.demands.specs.Searches.{described, SelectFits, BestSelect, select_called, SelectPast, SelectDemand}
use Rattle.demands.proofs.Found.{cs_data_valued}
use Rattle.demands.proofs.FourCalls as calls
use Rattle.demands.proofs.Refused.{number_of_lem}

-- of two that are not so the other way round, one is better
better : (p q m n : ℕ) → ((q < p) ⊎ ((q ≡ p) × (n ≤ m)) → ⊥) → (p < q) ⊎ ((p ≡ q) × (m < n))
better p q m n h = by (ltb p q) refl
  where
    by : (t : Bool) → ltb p q ≡ t → (p < q) ⊎ ((p ≡ q) × (m < n))
    by true e = inl (ltb-true p q e)
    by false e =
        let low : q ≤ p = ltb-false p q e in
        let high : p < suc q = lt_of_not-le (λ (l : suc q ≤ p). h (inl l)) in
        let same : q ≡ p = omega arith in
        inr (sym same, lt_of_not-le (λ (l : n ≤ m). h (inr (same, l))))

to_select : (d : Description) (a : Option AddrLayout) (pick : ℕ → ℕ) → SelectFits d a pick → select.Fit d a pick
to_select d a pick f = record { data-gapless = f.data-gapless; select-gap = f.select-gap; window = f.window }

from_select : (d : Description) (a : Option AddrLayout) (pick : ℕ → ℕ) → select.Fit d a pick → SelectFits d a pick
from_select d a pick f = record { data-gapless = f.data-gapless; select-gap = f.select-gap; window = f.window }

-- the number of why nothing fits
why-number : (d : Description) (a : Option AddrLayout) (why : Refusal) → select.WhyNone d a why → (number_of why ≡ 8) ⊎ (number_of why ≡ 7) ⊎ (number_of why ≡ 9)
why-number d a why (select.WhyNone.eight c s e) = inl (ap number_of e)
why-number d a why (select.WhyNone.seven c s l e) = inr (inl (ap number_of e))
why-number d a why (select.WhyNone.nine n e) = inr (inr (ap number_of e))

module _ (description layout buffer : List ℕ) (past : SelectPast description layout buffer) where
  abbrev d : Description
  d = described description

  abbrev a : Option AddrLayout
  a = given_at layout

  abbrev tests : select.PastTests d a
  tests = record { domain = rw (past.domain, past.given_domain); no_fault = past.no_fault }

  called_is : cs_data_call description layout buffer ≡ cs_data_found (cs_data_answer d a) buffer
  unfolding cs_data_call
  called_is = rw (past.layout-formed, past.formed)

  written-done : (x : Result CsDataLayout Refusal) (l : CsDataLayout) → x ≡ Ok l → (cs_data_found x buffer).answer ≡ Ok tt
  written-done x l e = rw (e, le-ltb (length buffer) cs_data_size past.room)

  found : (l : CsDataLayout) → cs_data_answer d a ≡ Ok l → (select_called description layout buffer).result ≡ 0
  unfolding packed_code
  found l e = rw (ap (λ (x : Answered). x.answer) called_is ∙ written-done (cs_data_answer d a) l e)

  best : (select_called description layout buffer).result ≡ 0
      → BestSelect d a (cs_data_at (take cs_data_size (select_called description layout buffer).buffer))
  best e =
      let is-done = ap (λ (x : Answered). x.answer) (sym called_is) ∙ done_alone (cs_data_call description layout buffer).answer e in
      let (l, laid, at_front) = calls.cs_data_found_lem (cs_data_answer d a) buffer is-done in
      let (c, b) = (cs_data_demand d a tests).found-best l laid in
      let back = cs_data_back l (subst ValuedCsData (sym b.layout) (cs_data_valued d (handed a) c)) in
      let reads : cs_data_at (take cs_data_size (cs_data_call description layout buffer).buffer) ≡ l =
      ap (λ (x : Answered). cs_data_at (take cs_data_size x.buffer)) called_is ∙ ap cs_data_at at_front ∙ back in
      subst (BestSelect d a) (sym reads) (record {
        choice = c;
        lines = b.sound.data-gpio;
        fits = from_select d a _ b.fit;
        lowest = λ pick h f. b.lowest pick h (to_select d a pick f);
        earliest = λ j h f. better _ _ _ _ (b.earliest j h (to_select d a _ f));
      })

  -- of two best choices neither is earlier
  clash : (p q m n : ℕ) → (p < q) ⊎ ((p ≡ q) × (m ≤ n)) → (q < p) ⊎ ((q ≡ p) × (n < m)) → ⊥
  clash p q m n h k = elim h [
    | inl x ↦ elim k [ inl y ↦ omega (arith, x, y) | inr y ↦ omega (arith, x, y.0) ]
    | inr x ↦ elim k [ inl y ↦ omega (arith, x.0, y) | inr y ↦ omega (arith, x.1, y.1) ]
  ]

  not_earlier : (l m : CsDataLayout) (p : BestSelect d a l) (q : BestSelect d a m) → p.choice < q.choice → ⊥
  not_earlier l m p q h =
      clash _ _ _ _ (p.lowest _ ((cs_data_demand d a tests).numbers.makes_one q.choice) q.fits) (q.earliest p.choice h p.fits)

  one : (l m : CsDataLayout) (p : BestSelect d a l) (q : BestSelect d a m) → p.choice ≡ q.choice
  one l m p q = neither-below p.choice q.choice (not_earlier l m p q) (not_earlier m l q p)

  none : (why : Refusal) → cs_data_answer d a ≡ Err why → number_in (select_called description layout buffer).result ≡ number_of why
  none why e =
      ap (λ (x : Answered). number_in (result_of x.answer)) called_is
      ∙ ap (λ (x : Result CsDataLayout Refusal). number_in (result_of (cs_data_found x buffer).answer)) e
      ∙ number_of_lem why

  of_three : (n m : ℕ) → n ≡ m → (m ≡ 8) ⊎ (m ≡ 7) ⊎ (m ≡ 9) → (n ≡ 8) ⊎ (n ≡ 7) ⊎ (n ≡ 9)
  of_three n m e h = subst (λ (x : ℕ). (x ≡ 8) ⊎ (x ≡ 7) ⊎ (x ≡ 9)) (sym e) h

  pub select_demand : SelectDemand description layout buffer
  select_demand = record {
    found = λ pick h f. let (l, e) = (cs_data_demand d a tests).some-found pick h (to_select d a pick f) in found l e;
    best = best;
    one = one;
    none = λ h.
        let (why, e) = (cs_data_demand d a tests).none-refused (λ pick g f. h pick g (from_select d a pick f)) in
        of_three _ _ (none why e) (why-number d a why ((cs_data_demand d a tests).refused_none why e).1);
  }
