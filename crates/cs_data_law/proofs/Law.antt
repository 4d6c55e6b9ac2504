-- Demand 2's law of the select search. Assumes nothing.
use Rattle.std.specs.Prelude.{Option, Some, None, Ok, Err}
use mathlib.Core.Path.{◌≡◌, refl, sym, ◌∙◌, ap, subst}
use Prim.Native.Nat.{ℕ, suc, ◌≤◌, ◌<◌}
use native.Mathlib.Nat.{lt_of_not-le}
use native.Mathlib.Omega.{arith}
use Rattle.gpio.specs.Set.{lowest}
use Rattle.slot.specs.declared.description.Description.{Description}
use Rattle.refusal.specs.declared.Refusal.{Refusal}
use Rattle.refusal.specs.declared.Refusal.TheVariants.{NonContiguousSelect, InteriorIgnoredLine}
use Rattle.listing.specs.Law.{Assigned}
use Rattle.search.specs.Search.{best}
use Rattle.search.specs.declared.Found.{Found}
use Rattle.search.proofs.Law.{nothing-fits}
use Rattle.cs_pins.specs.Pins.{numbered}
use Rattle.cs_data_layout.specs.Layout.{handed}
use Rattle.cs_data_layout.specs.Choices.{cs_data_layout_of}
use Rattle.cs_data_layout.specs.Search.{cs_data_answer}
use Rattle.addr_layout.specs.declared.layout.AddrLayout.{AddrLayout}
use Rattle.cs_data_layout.specs.declared.layout.CsDataLayout.{CsDataLayout}
use Rattle.cs_data_law.specs.Law.{PastTests, choices, choice, select_picked, Fit, NoneFits, seen, FirstSeen, LastRefused, WhyNone, eight, seven, nine, FoundBest, CsDataDemand}
use Rattle.cs_data_law.proofs.Scores.{score_by}
use Rattle.cs_data_law.proofs.Best.{number_of_lem, answers, best-laid, assigned, none_not_laid, by_numbers, trials, why-none, laid_not_refused, same_refusal, same_layout}

-- two numbers, neither of which is below the other
pub neither-below : (b c : ℕ) → (b < c → ⊥) → (c < b → ⊥) → b ≡ c
neither-below b c p q =
    let l : c < suc b = lt_of_not-le (λ (h : suc b ≤ c). p h) in
    let m : b < suc c = lt_of_not-le (λ (h : suc c ≤ b). q h) in
    omega arith

module _ (d : Description) (a : Option AddrLayout) (past : PastTests d a) where
  some-found : (pick : ℕ → ℕ) → Assigned (numbered d) pick → Fit d a pick → (l : CsDataLayout) × (cs_data_answer d a ≡ Ok l)
  some-found pick ok f = by (best (trials d a past) (choices d)) refl
    where
      by : (r : Option Found) → best (trials d a past) (choices d) ≡ r → (l : CsDataLayout) × (cs_data_answer d a ≡ Ok l)
      by None e = let (c, l, t) = number_of_lem d a past pick ok f in absurd (nothing-fits (trials d a past) (choices d) e c (score_by d a pick) l t)
      by (Some f) e = (cs_data_layout_of d (handed a) (numbered d) f.choice, answers d a past (Some f) e)

  found : (l : CsDataLayout) → cs_data_answer d a ≡ Ok l → (c : ℕ) × FoundBest d a c l
  found l o = by (best (trials d a past) (choices d)) refl
    where
      by : (r : Option Found) → best (trials d a past) (choices d) ≡ r → (c : ℕ) × FoundBest d a c l
      by None e = absurd (none_not_laid d a past l (sym (answers d a past None e) ∙ o))
      by (Some f) e = (f.choice, subst (FoundBest d a f.choice) (same_layout _ l (sym (answers d a past (Some f) e) ∙ o)) (best-laid d a past f.choice f.score e))

  none-refused : NoneFits d a → (why : Refusal) × (cs_data_answer d a ≡ Err why)
  none-refused none = by (best (trials d a past) (choices d)) refl
    where
      by : (r : Option Found) → best (trials d a past) (choices d) ≡ r → (why : Refusal) × (cs_data_answer d a ≡ Err why)
      by None e = let (why, q, w) = why-none d a past in (why, answers d a past None e ∙ q)
      by (Some f) e = absurd (none (choice d f.choice) (assigned d a past f.choice) (best-laid d a past f.choice f.score e).fit)

  -- a refusal is no layout, so that none fits; and it is the one of `none_fits`
  refused_none : (why : Refusal) → cs_data_answer d a ≡ Err why → NoneFits d a × WhyNone d a why
  refused_none why e = (none, by (best (trials d a past) (choices d)) refl)
    where
      none : NoneFits d a
      none pick ok f = let (l, o) = some-found pick ok f in laid_not_refused l why (sym o ∙ e)

      by : (r : Option Found) → best (trials d a past) (choices d) ≡ r → WhyNone d a why
      by None q =
          let (w, n, is) = why-none d a past in
          subst (WhyNone d a) (same_refusal w why (sym n ∙ sym (answers d a past None q) ∙ e)) is
      by (Some f) q = absurd (none (choice d f.choice) (assigned d a past f.choice) (best-laid d a past f.choice f.score q).fit)

  -- the first choice that sees an ignored GPIO is one, and so is the last that is refused
  one-first : (b c : ℕ) → FirstSeen d a b → FirstSeen d a c → b ≡ c
  one-first b c f g = neither-below b c (λ l. g.earlier-none b l f.sees) (λ l. f.earlier-none c l g.sees)

  one_last : (b c : ℕ) → LastRefused d a b → LastRefused d a c → b ≡ c
  one_last b c f g = neither-below b c (λ l. f.later_none c l g.within g.refused) (λ l. g.later_none b l f.within f.refused)

  one-why : (v w : Refusal) → WhyNone d a v → WhyNone d a w → v ≡ w
  one-why v w (eight b f p) (eight c g q) = p ∙ ap (λ (x : ℕ). InteriorIgnoredLine (lowest (seen d a (choice d x)))) (one-first b c f g) ∙ sym q
  one-why v w (eight b f p) (seven c none g q) = absurd (none (choice d b) (assigned d a past b) f.sees)
  one-why v w (eight b f p) (nine none q) = absurd (none (choice d b) (assigned d a past b) f.sees.refused)
  one-why v w (seven b none f p) (eight c g q) = absurd (none (choice d c) (assigned d a past c) g.sees)
  one-why v w (seven b none f p) (seven c n g q) =
      p ∙ ap (λ (x : ℕ). NonContiguousSelect (record { bits = select_picked d a (choice d x) })) (one_last b c f g) ∙ sym q
  one-why v w (seven b none f p) (nine n q) = absurd (n (choice d b) (assigned d a past b) f.refused)
  one-why v w (nine none p) (eight c g q) = absurd (none (choice d c) (assigned d a past c) g.sees.refused)
  one-why v w (nine none p) (seven c n g q) = absurd (none (choice d c) (assigned d a past c) g.refused)
  one-why v w (nine none p) (nine n q) = p ∙ sym q

  -- of two best choices neither is the earlier: it would be as good
  not_earlier : (b c : ℕ) (l m : CsDataLayout) → FoundBest d a b l → FoundBest d a c m → b < c → ⊥
  not_earlier b c l m x y h = y.earliest b h x.fit (x.lowest (choice d c) (assigned d a past c) y.fit)

  one-best : (b c : ℕ) (l m : CsDataLayout) → FoundBest d a b l → FoundBest d a c m → l ≡ m
  one-best b c l m x y =
      let most : b < suc c = lt_of_not-le (λ (h : suc c ≤ b). not_earlier c b m l y x h) in
      let least : c < suc b = lt_of_not-le (λ (h : suc b ≤ c). not_earlier b c l m x y h) in
      let same : b ≡ c = omega arith in
      x.layout ∙ ap (cs_data_layout_of d (handed a) (numbered d)) same ∙ sym y.layout

  pub cs_data_demand : CsDataDemand d a
  cs_data_demand = record {
    numbers = by_numbers d a past;
    some-found = some-found;
    found-best = found;
    one-best = one-best;
    none-refused = none-refused;
    refused_none = refused_none;
    one-why = one-why;
  }
