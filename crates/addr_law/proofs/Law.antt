-- Demand 2's law of the address search. Assumes nothing.
use Rattle.std.specs.Prelude.{Option, Some, None, Result, Ok, Err}
use mathlib.Core.Path.{◌≡◌, refl, sym, ◌∙◌, ap, subst}
use Prim.Native.Nat.{ℕ, suc, ◌≤◌, ◌<◌}
use native.Mathlib.Nat.{lt_of_not-le}
use native.Mathlib.Omega.{arith}
use Rattle.slot.specs.declared.description.Description.{Description}
use Rattle.refusal.specs.declared.Refusal.{Refusal}
use Rattle.refusal.specs.declared.Refusal.TheVariants.{NoValidLayout}
use Rattle.listing.specs.Choice.{gpio_at}
use Rattle.listing.specs.Law.{Assigned}
use Rattle.search.specs.Search.{best}
use Rattle.search.specs.declared.Found.{Found}
use Rattle.search.proofs.Law.{nothing-fits}
use Rattle.addr_lines.specs.Lines.{addr_listed}
use Rattle.addr_choices.specs.Choices.{addr_trial}
use Rattle.addr_layout.specs.Layouts.{addr_layout_of}
use Rattle.addr_layout.specs.Search.{addr_answer}
use Rattle.addr_layout.specs.declared.layout.AddrLayout.{AddrLayout}
use Rattle.addr_law.specs.Law.{PastTests, Fit, score_of, FoundBest, NoneFits, AddrDemand}
use Rattle.addr_law.proofs.Best.{number_of_lem, answers, best-laid, by_numbers, choices, refused_not_laid}

-- a search has one layout
laid_same : (l m : AddrLayout) → ◌≡◌ {A = Result AddrLayout Refusal} (Ok l) (Ok m) → l ≡ m
laid_same l m e = cc

module _ (d : Description) (past : PastTests d) where
  some-found : (pick : ℕ → ℕ) (base pins : ℕ) → Assigned (addr_listed d) pick → Fit d pick base pins → (l : AddrLayout) × (addr_answer d ≡ Ok l)
  some-found pick base pins a f = by (best (addr_trial d) (choices d past)) refl
    where
      by : (r : Option Found) → best (addr_trial d) (choices d past) ≡ r → (l : AddrLayout) × (addr_answer d ≡ Ok l)
      by None e =
          let (c, l, t) = number_of_lem d past pick base pins a f in
          absurd (nothing-fits (addr_trial d) (choices d past) e c (score_of base pins) l t)
      by (Some f) e = (addr_layout_of d (addr_listed d) f.choice, answers d past (Some f) e)

  found : (l : AddrLayout) → addr_answer d ≡ Ok l → (c : ℕ) × FoundBest d c l
  found l o = by (best (addr_trial d) (choices d past)) refl
    where
      by : (r : Option Found) → best (addr_trial d) (choices d past) ≡ r → (c : ℕ) × FoundBest d c l
      by None e = absurd (refused_not_laid NoValidLayout l (sym (answers d past None e) ∙ o))
      by (Some f) e = (f.choice, subst (FoundBest d f.choice) (laid_same _ l (sym (answers d past (Some f) e) ∙ o)) (best-laid d past f.choice f.score e))

  none-nine : NoneFits d → addr_answer d ≡ Err NoValidLayout
  none-nine none = by (best (addr_trial d) (choices d past)) refl
    where
      by : (r : Option Found) → best (addr_trial d) (choices d past) ≡ r → addr_answer d ≡ Err NoValidLayout
      by None e = answers d past None e
      by (Some f) e = absurd (none (λ k. gpio_at (addr_listed d) f.choice k) _ _ ((by_numbers d past).makes_one f.choice) (best-laid d past f.choice f.score e).fit)

  -- of two best choices neither is the earlier: that one scores higher than the other, which does not score lower
  not_earlier : (b c : ℕ) (l m : AddrLayout) → FoundBest d b l → FoundBest d c m → b < c → ⊥
  not_earlier b c l m x y h =
      let higher = y.earliest b l.gpio_base l.num_addr_pins h x.fit in
      let lowest = x.lowest (λ k. gpio_at (addr_listed d) c k) m.gpio_base m.num_addr_pins ((by_numbers d past).makes_one c) y.fit in
      omega arith

  one-best : (b c : ℕ) (l m : AddrLayout) → FoundBest d b l → FoundBest d c m → l ≡ m
  one-best b c l m x y =
      let most : b < suc c = lt_of_not-le (λ (h : suc c ≤ b). not_earlier c b m l y x h) in
      let least : c < suc b = lt_of_not-le (λ (h : suc b ≤ c). not_earlier b c l m x y h) in
      let same : b ≡ c = omega arith in
      x.layout ∙ ap (addr_layout_of d (addr_listed d)) same ∙ sym y.layout

  pub addr_demand : AddrDemand d
  addr_demand = record {
    numbers = by_numbers d past;
    some-found = some-found;
    found-best = found;
    one-best = one-best;
    none-nine = none-nine;
    nine-none = λ e pick base pins a f. let (l, o) = some-found pick base pins a f in refused_not_laid NoValidLayout l (sym e ∙ o);
  }
