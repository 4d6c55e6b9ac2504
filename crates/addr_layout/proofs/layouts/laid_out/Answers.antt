-- `laid_out` meets its contract. Assumes nothing.
use Rattle.std.specs.Prelude.{Option, Some, None}
use mathlib.Core.Path.{◌≡◌, refl, ap, ◌∙◌}
use mathlib.Core.Bool.{Bool, true, false, cond, not, ◌&&◌}
use mathlib.Core.List.{List}
use Prim.Native.Nat.{ℕ, ◌+◌, ◌*◌, ◌/◌, ◌%◌, ◌≤◌}
use native.Mathlib.Omega.{arith}
use lib.Dec.{leb, ltb}
use lib.ListN.{get_or}
use borrow.Author.Tests.{ltb-false}
use Rattle.lists.specs.Tab.{tab}
use Rattle.gpio.specs.Window.{fits}
use Rattle.gpio.specs.declared.span.Span.{Span}
use Rattle.gpio.proofs.Fits.{fits-within}
use Rattle.lists.proofs.Tab.{get_or-tab, tab_cong}
use Rattle.lists.proofs.Loops.{zero_one}
use Rattle.addr_lines.specs.Range.{reach, in_range}
use Rattle.addr_choices.specs.Choices.{spanning_of, choice_span, padded_pins, span_trial}
use Rattle.addr_choices.specs.declared.Spanning.{Spanning}
use Rattle.addr_layout.specs.Layouts.{addr_layout_of}
use Rattle.slot.specs.Description.{is_single}
use Rattle.listing.specs.Choice.{gpio_at}
use Rattle.addr_lines.specs.Lines.{lines}
use Rattle.slot.specs.declared.description.Description.{Description}
use Rattle.listing.specs.Design.Packed.{list_of}
use Rattle.listing.specs.declared.Listing.{Listing}
use Rattle.addr_layout.specs.declared.layout.AddrLayout.{AddrLayout}
use Rattle.addr_layout.specs.Design.Laying.{laid_from, Laying}
use Rattle.addr_layout.proofs.layouts.laid_out.Goals as goal

abbrev score_of : Option ℕ → ℕ
score_of (Some s) = s
score_of None = 0

-- a score means that the window holds the pins, and is made of them and the base
record Scored (base n score : ℕ) : Type 0 where
  pub few : n ≤ 48
  pub within : base ≤ 48
  pub pins : score / 1000 ≡ n
  pub low : score % 1000 ≡ base

scored_so : (base n s : ℕ) (f : Bool) → fits base n ≡ f → cond f (Some (n * 1000 + base)) None ≡ Some s → Scored base n s
scored_so base n s true e h =
    let w = fits-within base n e in
    let q : n * 1000 + base ≡ s = ap score_of h in
    record { few = omega arith; within = omega arith; pins = omega arith; low = omega arith }
scored_so base n s false e h = absurd (zero_one cc)

scored : (s : Span) (score : ℕ) → span_trial s ≡ Some score → Scored s.low (padded_pins s) score
unfolding span_trial
scored s score e = scored_so s.low (padded_pins s) score (fits s.low (padded_pins s)) refl e

smaller : (a b : ℕ) (t : Bool) → ltb a b ≡ t → cond t a b ≤ a
smaller a b true e = omega arith
smaller a b false e = ltb-false a b e

-- GPIOs read from the filled array are those that it was filled with
from_tab : (base pins : ℕ) (f : ℕ → ℕ) (one both : Bool) (n u : ℕ) → n ≤ 24
    → laid_from base pins (λ k. get_or (tab 30 f) k 0) one both n u ≡ laid_from base pins f one both n u
from_tab base pins f one both n u h =
    rw (
      get_or-tab f 30 n 0 (omega arith),
      get_or-tab f 30 (n + 1) 0 (omega arith),
      tab_cong (λ k. cond (ltb k n) (get_or (tab 30 f) k 0) 0) (λ k. cond (ltb k n) (f k) 0) 24 (λ k l. rw (get_or-tab f 30 k 0 (omega arith))),
    )

-- what the caller found of the description's own numbers
module _ (d : Description) (l : Listing) (choice score : ℕ) (every : Spanning) (p : Laying d every l choice score) where
  used_is : every.in_range ≡ in_range d
  used_is = ap (λ (x : Spanning). x.in_range) p.spanning

  lines_are : every.lines ≡ lines d
  lines_are = ap (λ (x : Spanning). x.lines) p.spanning

  used_some : every.in_range ≤ every.lines
  used_some = rw (used_is, lines_are) (smaller (lines d) (reach d) (ltb (lines d) (reach d)) refl)

  few-lines : every.lines ≤ 24
  few-lines = rw lines_are p.address-lines

  scored_is : Scored (choice_span (list_of l) (spanning_of d) choice).low (padded_pins (choice_span (list_of l) (spanning_of d) choice)) score
  scored_is = scored _ score p.fits

  laid : (gs : List ℕ) (single : Bool) (r : AddrLayout) → gs ≡ tab 30 (λ k. gpio_at (list_of l) choice k) → single ≡ is_single d.set_type
      → r ≡ laid_from (score % 1000) (score / 1000) (λ k. get_or gs k 0) (not single) (not single && leb 3 d.num_chips) every.lines every.in_range
      → r ≡ addr_layout_of d (list_of l) choice
  laid gs single r eg ei e =
      let f : ℕ → ℕ = λ k. gpio_at (list_of l) choice k in
      let filled : r ≡ laid_from (score % 1000) (score / 1000) f (not single) (not single && leb 3 d.num_chips) every.lines every.in_range =
      e ∙ rw eg (from_tab (score % 1000) (score / 1000) f (not single) (not single && leb 3 d.num_chips) every.lines every.in_range few-lines) in
      rw (scored_is.low, scored_is.pins, ei, used_is, lines_are) at filled

pub layout-requires : goal.layout-requires
layout-requires c =
    let a = c.args in
    let p = c.requires in
    let q = scored_is a.d a.l a.found.choice a.found.score a.every p in (
      omega (arith, q.few, q.pins),
      omega (arith, q.within, q.low),
      used_some a.d a.l a.found.choice a.found.score a.every p,
      few-lines a.d a.l a.found.choice a.found.score a.every p,
    )

pub returns : goal.returns
returns c =
    let a = c.args in
    laid a.d a.l a.found.choice a.found.score a.every c.requires _ _ _ c.resolve-gpios.ensures c.is_single-one.ensures c.layout.ensures
