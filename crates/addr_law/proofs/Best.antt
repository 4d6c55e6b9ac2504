-- The layout of the best choice of the address search. Assumes nothing.
use Rattle.std.specs.Prelude.{Option, Some, Result, Ok, Err}
use mathlib.Core.Path.{◌≡◌, refl, ◌∙◌, ap}
use mathlib.Core.Bool.{true}
use Prim.Native.Nat.{ℕ, ◌^◌, ◌<◌}
use lib.Dec.{leb}
use Rattle.lists.proofs.Bools.{and_left}
use Rattle.lists.proofs.Loops.{zero_one}
use Rattle.slot.specs.declared.description.Description.{Description}
use Rattle.refusal.specs.declared.Refusal.{Refusal}
use Rattle.domain.specs.Domain.{description_in}
use Rattle.listing.specs.Choice.{gpio_at}
use Rattle.listing.specs.Law.{Assigned, Numbers}
use Rattle.listing.specs.Listing.{twos}
use Rattle.listing.proofs.Numbers.{numbers}
use Rattle.search.specs.Search.{At, best}
use Rattle.search.specs.declared.Found.{Found}
use Rattle.search.proofs.Law.{found-best}
use Rattle.addr_lines.specs.Lines.{addr_listed}
use Rattle.addr_choices.specs.Choices.{addr_trial}
use Rattle.addr_layout.specs.Layouts.{addr_layout_of}
use Rattle.addr_layout.specs.Search.{addr_best, addr_answer_of, addr_answer}
use Rattle.addr_layout.specs.declared.layout.AddrLayout.{AddrLayout}
use Rattle.addr_law.specs.Law.{PastTests, Fit, score_of, FoundBest}
use Rattle.addr_law.proofs.Fit.{fits_too, scores_fit, fit_scores}
use Rattle.addr_law.proofs.InDomain.{listed_in}
use Rattle.addr_law.proofs.Sound.{sound-layout}

pub refused_not_laid : (why : Refusal) (l : AddrLayout) → ◌≡◌ {A = Result AddrLayout Refusal} (Err why) (Ok l) → ⊥
refused_not_laid why l e = zero_one cc

module _ (d : Description) (past : PastTests d) where
  abbrev pub choices : ℕ
  choices = 2 ^ twos (addr_listed d)

  pub in_domain : description_in d ≡ true
  in_domain = and_left (description_in d) (leb (twos (addr_listed d)) 16) past.domain

  pub by_numbers : Numbers (addr_listed d)
  by_numbers = numbers (addr_listed d) past.no_fault (listed_in d in_domain)

  -- a choice of candidates that fits is a number that scores
  pub number_of_lem : (pick : ℕ → ℕ) (base pins : ℕ) → Assigned (addr_listed d) pick → Fit d pick base pins
      → (c : ℕ) × (c < choices) × (addr_trial d c ≡ Some (score_of base pins))
  number_of_lem pick base pins a f =
      let (c, l, m) = by_numbers.made pick a in
      (c, l, fit_scores d c base pins (fits_too d pick (λ k. gpio_at (addr_listed d) c k) m base pins f))

  pub answers : (f : Option Found) → best (addr_trial d) choices ≡ f → addr_answer d ≡ addr_answer_of d f
  unfolding addr_best
  answers f e =
      let searched : addr_answer d ≡ addr_answer_of d (addr_best d) = rw (past.domain, past.no_fault) in
      searched ∙ ap (addr_answer_of d) e

  -- the layout of the best choice
  pub best-laid : (c s : ℕ) → best (addr_trial d) choices ≡ At c s → FoundBest d c (addr_layout_of d (addr_listed d) c)
  best-laid c s e =
      let b = found-best (addr_trial d) choices c s e in
      let (fit, score) = scores_fit d c s b.fits in
      record {
        within = b.within;
        layout = refl;
        fit = fit;
        lowest = λ pick base pins a f. let (j, l, t) = number_of_lem pick base pins a f in rw (← score) (b.lowest j (score_of base pins) l t);
        earliest = λ j base pins l f. rw (← score) (b.earliest j (score_of base pins) l (fit_scores d j base pins f));
        sound = sound-layout d c in_domain (by_numbers.makes_one c) fit;
      }
