-- The layout of the best choice of the select search, and why there is none where nothing fits. Assumes nothing.
use Rattle.std.specs.Prelude.{Option, Some, None, Result, Ok, Err}
use mathlib.Core.Path.{◌≡◌, refl, sym, ◌∙◌, ap}
use Prim.Native.Nat.{ℕ, ◌<◌}
use native.Mathlib.Omega.{arith}
use Rattle.lists.proofs.Loops.{zero_one}
use Rattle.slot.specs.declared.description.Description.{Description}
use Rattle.refusal.specs.declared.Refusal.{Refusal}
use Rattle.refusal.specs.declared.Refusal.TheVariants.{NoValidLayout}
use Rattle.refusal.specs.First.{or_else}
use Rattle.listing.specs.Law.{Assigned, Numbers}
use Rattle.listing.proofs.Numbers.{numbers}
use Rattle.search.specs.Search.{At, best}
use Rattle.search.specs.declared.Found.{Found}
use Rattle.search.proofs.Law.{found-best}
use Rattle.cs_pins.specs.Pins.{numbered}
use Rattle.cs_pins.proofs.InDomain.{numbered_in}
use Rattle.cs_verdict.specs.Verdict.{verdict_trial}
use Rattle.cs_verdict.specs.declared.Verdict.{Verdict}
use Rattle.cs_verdict.specs.declared.Verdict.TheVariants.{DataGap, SelectGap, OutsideWindow, Fits}
use Rattle.cs_choices.specs.Nothing.{interior, last_refused}
use Rattle.cs_data_layout.specs.Layout.{handed}
use Rattle.cs_data_layout.specs.Choices.{cs_verdict, cs_data_layout_of, ignored_set}
use Rattle.cs_data_layout.specs.Search.{cs_best, or_no_layout, none_fits, cs_data_answer_of, cs_data_answer}
use Rattle.addr_layout.specs.declared.layout.AddrLayout.{AddrLayout}
use Rattle.cs_data_layout.specs.declared.layout.CsDataLayout.{CsDataLayout}
use Rattle.cs_data_law.specs.Law.{PastTests, choices, choice, select_picked, Fit, SelectRefused, NoneSeen, NoneRefused, WhyNone, eight, seven, nine, FoundBest}
use Rattle.cs_data_law.proofs.Scores.{score_by, judged-at, verdict-fit, fit-verdict, verdict-refused, refused-verdict, score_worse, worse_score, fits_too, refused_too, sees_too, scores_too}
use Rattle.cs_data_law.proofs.Why.{first_is, FirstIs, last_is, LastIs}
use Rattle.cs_data_law.proofs.Faults.{numbered-none}
use Rattle.cs_data_law.proofs.Lines.{in_domain, sound-lines}
use Rattle.cs_data_law.proofs.Selects.{sound-selects}
use Rattle.cs_data_law.proofs.Qualifiers.{sound-qualifiers}
use Rattle.cs_data_law.proofs.Sound.{sound-layout}
use Rattle.cs_data_law.proofs.Window.{sound-window}

-- a choice has a score exactly if it fits
pub fits_scores : (v : Verdict) (t : ℕ) → v ≡ Fits t → verdict_trial v ≡ Some t
fits_scores v t e = rw e

pub scores_fit : (v : Verdict) (t : ℕ) → verdict_trial v ≡ Some t → v ≡ Fits t
scores_fit DataGap t e = absurd (zero_one cc)
scores_fit (SelectGap s) t e = absurd (zero_one cc)
scores_fit OutsideWindow t e = absurd (zero_one cc)
scores_fit (Fits s) t e = cc

pub laid_not_refused : (l : CsDataLayout) (r : Refusal) → ◌≡◌ {A = Result CsDataLayout Refusal} (Ok l) (Err r) → ⊥
laid_not_refused l r e = zero_one cc

pub same_refusal : (r w : Refusal) → ◌≡◌ {A = Result CsDataLayout Refusal} (Err r) (Err w) → r ≡ w
same_refusal r w e = cc

pub same_layout : (l m : CsDataLayout) → ◌≡◌ {A = Result CsDataLayout Refusal} (Ok l) (Ok m) → l ≡ m
same_layout l m e = cc

module _ (d : Description) (a : Option AddrLayout) (past : PastTests d a) where
  abbrev pub verdicts : ℕ → Verdict
  verdicts c = cs_verdict d (handed a) c

  abbrev pub trials : ℕ → Option ℕ
  trials c = verdict_trial (verdicts c)

  pub by_numbers : Numbers (numbered d)
  by_numbers = numbers (numbered d) (numbered-none d a past.no_fault) (numbered_in d (in_domain d a past))

  pub assigned : (c : ℕ) → Assigned (numbered d) (choice d c)
  assigned c = by_numbers.makes_one c

  -- a choice scores exactly if its GPIOs fit
  pub fit_scores : (c : ℕ) → Fit d a (choice d c) → trials c ≡ Some (score_by d a (choice d c))
  fit_scores c f = fits_scores (verdicts c) (score_by d a (choice d c)) (judged-at d a c ∙ fit-verdict d a (choice d c) f)

  pub scores_by : (c s : ℕ) → trials c ≡ Some s → Fit d a (choice d c) × (s ≡ score_by d a (choice d c))
  scores_by c s e = verdict-fit d a (choice d c) s (sym (judged-at d a c) ∙ scores_fit (verdicts c) s e)

  -- and its verdict is that the select set is refused exactly if it is
  pub refused_by : (c s : ℕ) → verdicts c ≡ SelectGap s → SelectRefused d a (choice d c) × (s ≡ select_picked d a (choice d c))
  refused_by c s e = verdict-refused d a (choice d c) s (sym (judged-at d a c) ∙ e)

  pub by_refused : (c : ℕ) → SelectRefused d a (choice d c) → verdicts c ≡ SelectGap (select_picked d a (choice d c))
  by_refused c r = judged-at d a c ∙ refused-verdict d a (choice d c) r

  -- a choice of candidates that fits is a number that scores
  pub number_of_lem : (pick : ℕ → ℕ) → Assigned (numbered d) pick → Fit d a pick → (c : ℕ) × (c < choices d) × (trials c ≡ Some (score_by d a pick))
  number_of_lem pick ok f =
      let (c, l, m) = by_numbers.made pick ok in
      (c, l, fit_scores c (fits_too d a c pick m f) ∙ ap Some (scores_too d a c pick m))

  pub answers : (f : Option Found) → best trials (choices d) ≡ f → cs_data_answer d a ≡ cs_data_answer_of d (handed a) f
  unfolding cs_best
  answers f e =
      let searched : cs_data_answer d a ≡ cs_data_answer_of d (handed a) (cs_best d (handed a)) = rw (past.domain, past.no_fault) in
      searched ∙ ap (cs_data_answer_of d (handed a)) e

  -- the first of the two faults, else 9
  pub why-first : (f : Option Refusal) → FirstIs verdicts (ignored_set d) (choices d) f → (g : Option Refusal) → LastIs verdicts (choices d) g
      → (why : Refusal) × (or_no_layout (or_else f g) ≡ Err why) × WhyNone d a why
  why-first (Some r) (c, s, l, e, some, before, q) g last =
      let (refused, is) = refused_by c s e in (
        r,
        refl,
        eight c (record {
          within = l;
          sees = record { refused = refused; some = rw is at some };
          earlier-none = λ j m h. h.some (before j (select_picked d a (choice d j)) m (by_refused j h.refused));
        }) (rw is at q),
      )
  why-first None none (Some r) (c, s, l, e, later, q) =
      let (refused, is) = refused_by c s e in (
        r,
        refl,
        seven c unseen (record {
          within = l;
          refused = refused;
          later_none = λ j m n h. later j (select_picked d a (choice d j)) m n (by_refused j h);
        }) (rw is at q),
      )
    where
      unseen : NoneSeen d a
      unseen pick ok h =
          let (j, m, made) = by_numbers.made pick ok in
          let sees = sees_too d a j pick made h in
          sees.some (none j (select_picked d a (choice d j)) m (by_refused j sees.refused))
  why-first None none None last = (NoValidLayout, refl, nine unrefused refl)
    where
      unrefused : NoneRefused d a
      unrefused pick ok h =
          let (j, m, made) = by_numbers.made pick ok in
          last j (select_picked d a (choice d j)) m (by_refused j (refused_too d a j pick made h))

  -- what `none_fits` answers, and why
  pub why-none : (why : Refusal) × (none_fits d (handed a) ≡ Err why) × WhyNone d a why
  unfolding none_fits
  why-none =
      why-first (interior (ignored_set d) verdicts (choices d)) (first_is verdicts (ignored_set d) (choices d))
      (last_refused verdicts (choices d)) (last_is verdicts (choices d))

  -- `none_fits` is never a layout
  pub none_not_laid : (l : CsDataLayout) → none_fits d (handed a) ≡ Ok l → ⊥
  none_not_laid l e = let (why, q, w) = why-none in laid_not_refused l why (sym e ∙ q)

  -- the layout of the best choice
  pub best-laid : (c s : ℕ) → best trials (choices d) ≡ At c s → FoundBest d a c (cs_data_layout_of d (handed a) (numbered d) c)
  best-laid c s e =
      let b = found-best trials (choices d) c s e in
      let (fit, score) = scores_by c s b.fits in
      record {
        within = b.within;
        layout = refl;
        fit = fit;
        lowest = λ pick ok f. let (j, l, t) = number_of_lem pick ok f in score_worse d a (choice d c) pick (rw (← score) (b.lowest j (score_by d a pick) l t));
        earliest = λ j l f n. omega (arith, score, worse_score d a (choice d j) (choice d c) n, b.earliest j (score_by d a (choice d j)) l (fit_scores j f));
        sound = sound-layout d a past c (assigned c) fit;
        lines = sound-lines d a past c (assigned c);
        selects = sound-selects d a past c fit;
        qualifiers = sound-qualifiers d a past c;
        window = sound-window d a past c fit;
      }
