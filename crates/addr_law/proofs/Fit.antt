-- What a choice spans comes to a base and pins as the law has them, and scores by them. Assumes nothing.
use Rattle.std.specs.Prelude.{Option, Some, None}
use mathlib.Core.Path.{◌≡◌, refl, sym, ◌∙◌, ap, subst}
use mathlib.Core.Bool.{Bool, true, false, cond}
use mathlib.Core.Logic.{◌⊎◌, inl, inr}
use Prim.Native.Nat.{ℕ, zero, suc, ◌+◌, ◌-◌, ◌≤◌, ◌<◌}
use native.Mathlib.Nat.{le_of_suc-le-suc, eq-or-lt_of_le}
use native.Mathlib.Omega.{arith}
use lib.Dec.{ltb}
use lib.ListN.{length, get_or}
use borrow.Author.Tests.{ltb-true, ltb-false}
use Rattle.lists.proofs.Loops.{zero_one}
use Rattle.gpio.specs.Window.{fits}
use Rattle.gpio.specs.Span.{empty, widened}
use Rattle.gpio.specs.declared.span.Span.{Span}
use Rattle.gpio.specs.declared.candidates.Candidates.{Candidates}
use Rattle.gpio.specs.declared.candidates.Candidates.TheVariants.{Absent, One, Two}
use Rattle.gpio.proofs.Fits.{fits-within}
use Rattle.gpio.proofs.Spans.{least_both, most_both}
use Rattle.slot.specs.Description.{is_multi}
use Rattle.slot.specs.declared.description.Description.{Description}
use Rattle.listing.specs.Choice.{gpio_at}
use Rattle.addr_lines.specs.Lines.{addr_listed}
use Rattle.select_span.specs.Selects.{widened_first, kind_candidates, select_span, fixed_span}
use Rattle.addr_choices.specs.Choices.{spanning_of, spanned, span_up_to, choice_span, span_width, padded_pins, span_trial, addr_trial}
use Rattle.addr_law.specs.Law.{FirstOf, Spanned, of_pin, of_select, of_commoned, Extent, Fit, score_of}

-- a GPIO within a span
abbrev Within : Span → ℕ → Type 0
Within s g = (s.low ≤ g) × (g ≤ s.high)

-- a widened span has the GPIO, and what it had before
widened_has : (s : Span) (g : ℕ) → Within (widened s g) g
widened_has s g = ((least_both g s.low (ltb g s.low) refl).0, (most_both g s.high (ltb s.high g) refl).0)

widened_keeps : (s : Span) (g x : ℕ) → Within s x → Within (widened s g) x
widened_keeps s g x w =
    (omega (arith, least_both g s.low (ltb g s.low) refl, w.0), omega (arith, most_both g s.high (ltb s.high g) refl, w.1))

-- both ends of a span are among some GPIOs, or are those of the empty span
abbrev Attained : (ℕ → Type 0) → Span → Type 0
Attained P s = ((s.low ≡ 255) ⊎ P s.low) × ((s.high ≡ 0) ⊎ P s.high)

end-attained : (P : ℕ → Type 0) (z g x : ℕ) (t : Bool) → P g → (x ≡ z) ⊎ P x → (cond t g x ≡ z) ⊎ P (cond t g x)
end-attained P z g x true p a = inr p
end-attained P z g x false p a = a

widened-attained : (P : ℕ → Type 0) (s : Span) (g : ℕ) → P g → Attained P s → Attained P (widened s g)
widened-attained P s g p a = (end-attained P 255 g s.low (ltb g s.low) p a.0, end-attained P 0 g s.high (ltb s.high g) p a.1)

-- the same of a pin's first candidate
first_has : (s : Span) (f : Candidates) (g : ℕ) → FirstOf f g → Within (widened_first s f) g
first_has s Absent g e = absurd e
first_has s (One a) g e = rw e (widened_has s a)
first_has s (Two a b) g e = rw e (widened_has s a)

first_keeps : (s : Span) (f : Candidates) (x : ℕ) → Within s x → Within (widened_first s f) x
first_keeps s Absent x w = w
first_keeps s (One a) x w = widened_keeps s a x w
first_keeps s (Two a b) x w = widened_keeps s a x w

first-attained : (P : ℕ → Type 0) (s : Span) (f : Candidates) → ((g : ℕ) → FirstOf f g → P g) → Attained P s → Attained P (widened_first s f)
first-attained P s Absent h a = a
first-attained P s (One g) h a = widened-attained P s g (h g refl) a
first-attained P s (Two g b) h a = widened-attained P s g (h g refl) a

-- and of many turns, of which turn k takes the first of the candidates f k
module _ (t : ℕ → Span) (f : ℕ → Candidates) (turn : (k : ℕ) → t (suc k) ≡ widened_first (t k) (f k)) where
  turns_keep : (m x : ℕ) → Within (t 0) x → Within (t m) x
  turns_keep zero x w = w
  turns_keep (suc m) x w = rw turn (first_keeps (t m) (f m) x (turns_keep m x w))

  turns_have : (m k g : ℕ) → k < m → FirstOf (f k) g → Within (t m) g
  turns_have zero k g l e = absurd (omega arith)
  turns_have (suc m) k g l e =
      rw turn (elim (eq-or-lt_of_le (le_of_suc-le-suc l)) [
        | inl q ↦ first_has (t m) (f m) g (rw q at e)
        | inr q ↦ first_keeps (t m) (f m) g (turns_have m k g q e)
      ])

  turns_attain : (P : ℕ → Type 0) (m : ℕ) → ((k g : ℕ) → k < m → FirstOf (f k) g → P g) → Attained P (t 0) → Attained P (t m)
  turns_attain P zero h a = a
  turns_attain P (suc m) h a =
      rw turn (first-attained P (t m) (f m) (λ g e. h m g (omega arith) e) (turns_attain P m (λ k g l e. h k g (omega arith) e) a))

-- a listed pin's GPIO as such candidates: none if the pin is not spanned
abbrev counted : Bool → ℕ → Candidates
counted t g = cond t (One g) Absent

counted-turn : (s : Span) (g : ℕ) (t : Bool) → cond t (widened s g) s ≡ widened_first s (counted t g)
counted-turn s g true = refl
counted-turn s g false = refl

counted-first : (g x : ℕ) (t : Bool) → FirstOf (counted t g) x → (t ≡ true) × (x ≡ g)
counted-first g x true e = (refl, e)
counted-first g x false e = absurd e

pins-wide : (s : Span) (t : Bool) → ltb 8 (span_width s) ≡ t → (8 ≤ cond t (span_width s) 8) × (span_width s ≤ cond t (span_width s) 8)
pins-wide s true e = omega (arith, ltb-true 8 (span_width s) e)
pins-wide s false e = omega (arith, ltb-false 8 (span_width s) e)

-- more than 8 pins reach just to the highest
tight_by : (P : ℕ → Type 0) (s : Span) (t : Bool) → s.low ≤ s.high → P s.high
    → (cond t (span_width s) 8 ≡ 8) ⊎ P (s.low + cond t (span_width s) 8 - 1)
tight_by P s true l p = inr (subst P (omega arith) p)
tight_by P s false l p = inl refl

-- what a base and pins come to
abbrev trial_by : ℕ → ℕ → Option ℕ
trial_by base pins = cond (fits base pins) (Some (score_of base pins)) None

scored : (base pins s : ℕ) (t : Bool) → fits base pins ≡ t → cond t (Some (score_of base pins)) None ≡ Some s → (fits base pins ≡ true) × (s ≡ score_of base pins)
scored base pins s true e h = (e, cc)
scored base pins s false e h = absurd (zero_one cc)

-- GPIOs that were picked have one base, and one number of pins
module _ (d : Description) (pick : ℕ → ℕ) where
  no_wider : (a b m n : ℕ) → Extent d pick a m → Extent d pick b n → a ≡ b → m ≤ n
  no_wider a b m n x y e = elim x.tight [
    | inl q ↦ omega (arith, q, y.wide)
    | inr q ↦ omega (arith, e, x.wide, y.inside (a + m - 1) q)
  ]

  one-extent : (a b m n : ℕ) → Extent d pick a m → Extent d pick b n → (a ≡ b) × (m ≡ n)
  one-extent a b m n x y =
      let same : a ≡ b = omega (arith, x.lowest b y.attained, y.lowest a x.attained) in
      (same, omega (arith, no_wider a b m n x y same, no_wider b a n m y x (sym same)))

-- GPIOs that are the same, pin by pin, fit alike
spans_too : (d : Description) (p q : ℕ → ℕ) → ((k : ℕ) → k < length (addr_listed d) → p k ≡ q k) → (g : ℕ) → Spanned d p g → Spanned d q g
spans_too d p q e g (of_pin k l t h) = of_pin k l t (h ∙ e k l)
spans_too d p q e g (of_select m h) = of_select m h
spans_too d p q e g (of_commoned m k l h) = of_commoned m k l h

pub fits_too : (d : Description) (p q : ℕ → ℕ) → ((k : ℕ) → k < length (addr_listed d) → q k ≡ p k) → (base pins : ℕ) → Fit d p base pins → Fit d q base pins
fits_too d p q e base pins f =
    let to = spans_too d p q (λ k l. sym (e k l)) in
    let from = spans_too d q p e in
    let x = f.extent in
    record {
      extent = record {
        attained = to base x.attained;
        lowest = λ g s. x.lowest g (from g s);
        inside = λ g s. x.inside g (from g s);
        wide = x.wide;
        tight = elim x.tight [ inl q ↦ inl q | inr s ↦ inr (to (base + pins - 1) s) ];
      };
      window = f.window;
    }

-- what choice c spans
module _ (d : Description) (c : ℕ) where
  -- the GPIOs that the choice takes
  abbrev pick : ℕ → ℕ
  pick k = gpio_at (addr_listed d) c k

  -- the span once k listed pins are passed, what pin k adds to it, and the k-th commoned line
  abbrev span_to : ℕ → Span
  span_to k = span_up_to (addr_listed d) (spanning_of d) c k

  abbrev added_at : ℕ → Candidates
  added_at k = counted (spanned (spanning_of d) k) (gpio_at (addr_listed d) c k)

  abbrev commoned_at : ℕ → Candidates
  commoned_at k = kind_candidates d (get_or d.multi.commoned k 0)

  span_turn : (k : ℕ) → span_to (suc k) ≡ widened_first (span_to k) (added_at k)
  unfolding span_up_to
  span_turn k = counted-turn (span_to k) (gpio_at (addr_listed d) c k) (spanned (spanning_of d) k)

  select-turn : (k : ℕ) → select_span d (suc k) ≡ widened_first (select_span d k) (commoned_at k)
  unfolding select_span
  select-turn k = refl

  fixed_keeps : (g : ℕ) → is_multi d.set_type ≡ true → Within (select_span d d.multi.num_commoned) g → Within (span_to (length (addr_listed d))) g
  unfolding span_up_to fixed_span
  fixed_keeps g m w = turns_keep span_to added_at span_turn (length (addr_listed d)) g (rw m w)

  -- each GPIO that is spanned is within the span, and the span's ends are two of them
  within : (g : ℕ) → Spanned d pick g → Within (span_to (length (addr_listed d))) g
  unfolding select_span
  within g (of_pin k l t e) = turns_have span_to added_at span_turn (length (addr_listed d)) k g l (rw t e)
  within g (of_select m e) =
      fixed_keeps g m (turns_keep (select_span d) commoned_at select-turn d.multi.num_commoned g (first_has empty (kind_candidates d d.multi.select) g e))
  within g (of_commoned m k l e) = fixed_keeps g m (turns_have (select_span d) commoned_at select-turn d.multi.num_commoned k g l e)

  fixed_attained : (m : Bool) → is_multi d.set_type ≡ m → Attained (Spanned d pick) (cond m (select_span d d.multi.num_commoned) empty)
  unfolding select_span
  fixed_attained false e = (inl refl, inl refl)
  fixed_attained true e =
      turns_attain (select_span d) commoned_at select-turn (Spanned d pick) d.multi.num_commoned (λ k g l h. of_commoned e k l h)
      (first-attained (Spanned d pick) empty (kind_candidates d d.multi.select) (λ g h. of_select e h) (inl refl, inl refl))

  ends : Attained (Spanned d pick) (span_to (length (addr_listed d)))
  unfolding span_up_to fixed_span
  ends =
      turns_attain span_to added_at span_turn (Spanned d pick) (length (addr_listed d))
      (λ k g l h. let is = counted-first (pick k) g (spanned (spanning_of d) k) h in of_pin k l is.0 is.1)
      (fixed_attained (is_multi d.set_type) refl)

  abbrev span : Span
  span = choice_span (addr_listed d) (spanning_of d) c

  low-spanned : span.low < 255 → Spanned d pick span.low
  low-spanned h = elim ends.0 [
    | inl e ↦ absurd (omega (arith, h, e))
    | inr p ↦ p
  ]

  high-spanned : span.low < 255 → Spanned d pick span.high
  high-spanned h = elim ends.1 [
    | inl e ↦ let low = low-spanned h in subst (Spanned d pick) (omega (arith, within span.low low, e)) low
    | inr p ↦ p
  ]

  -- so that they give base and pins
  extent : span.low < 255 → Extent d pick span.low (padded_pins span)
  extent h =
      let wide = pins-wide span (ltb 8 (span_width span)) refl in
      let reach = within span.low (low-spanned h) in
      record {
        attained = low-spanned h;
        lowest = λ g s. (within g s).0;
        inside = λ g s. let w = within g s in omega (arith, wide.1, w.0, w.1);
        wide = wide.0;
        tight = tight_by (Spanned d pick) span (ltb 8 (span_width span)) reach.1 (high-spanned h);
      }

  -- a choice that scores fits, and one that fits scores
  pub scores_fit : (t : ℕ) → addr_trial d c ≡ Some t → Fit d pick span.low (padded_pins span) × (t ≡ score_of span.low (padded_pins span))
  unfolding span_trial
  scores_fit t e =
      let (w, s) = scored span.low (padded_pins span) t (fits span.low (padded_pins span)) refl e in
      (record { extent = extent (omega (arith, fits-within span.low (padded_pins span) w)); window = w }, s)

  pub fit_scores : (base pins : ℕ) → Fit d pick base pins → addr_trial d c ≡ Some (score_of base pins)
  unfolding span_trial
  fit_scores base pins f =
      let low = (within base f.extent.attained).0 in
      let same = one-extent d pick span.low base (padded_pins span) pins (extent (omega (arith, low, fits-within base pins f.window))) f.extent in
      ap (λ (x : ℕ). trial_by x (padded_pins span)) same.0 ∙ ap (λ (x : ℕ). trial_by base x) same.1 ∙ rw f.window
