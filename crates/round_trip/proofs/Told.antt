-- Well wired, the lines of found layouts are told apart. Assumes nothing.
use Rattle.std.specs.Prelude.{Some, Option, None}
use mathlib.Core.Path.{◌≡◌, refl, sym, ◌∙◌, ap, subst}
use mathlib.Core.Bool.{Bool, true, false}
use Prim.Native.Nat.{ℕ, ◌-◌, ◌*◌, ◌<◌}
use native.Mathlib.Omega.{arith}
use borrow.Author.Tests.{ne_eqb}
use Rattle.lists.proofs.Loops.{zero_one}
use Rattle.gpio.specs.Candidates.{two}
use Rattle.gpio.specs.Set.{Distinct}
use Rattle.gpio.specs.declared.candidates.Candidates.{Candidates}
use Rattle.gpio.specs.declared.candidates.Candidates.TheVariants.{Absent, One, Two}
use Rattle.slot.specs.Description.{is_multi}
use Rattle.slot.specs.declared.description.Board.{Board}
use Rattle.slot.specs.declared.description.Description.{Description}
use Rattle.listing.specs.Choice.{CandidateOf, gpio_at}
use Rattle.listing.specs.Lines.{kind_pin, pin_socket, socket_candidates, pin_candidates}
use Rattle.addr_lines.specs.Lines.{addr_listed}
use Rattle.select_span.specs.Selects.{kind_candidates}
use Rattle.addr_law.specs.Law as addr
use Rattle.addr_law.specs.Law.Spanned.{of_select}
use Rattle.addr_layout.specs.declared.layout.AddrLayout.{AddrLayout}
use Rattle.cs_data_law.specs.Sound as cs
use Rattle.cs_data_layout.specs.declared.layout.CsDataLayout.{CsDataLayout}
use Rattle.build_args.specs.Positions.{data_position}
use Rattle.build_args.specs.Picks.{first_select}
use Rattle.premises.specs.WellWired.{BoardPin, candidates_of, data_pin, select_pin, WellWired}
use Rattle.premises.specs.WellWired.BoardPin.{socket, x1, x2}
use Rattle.round_trip.proofs.Fitted.{ToldApart}
use Rattle.round_trip.proofs.Pins.{place_in, same_place}
use Rattle.round_trip.proofs.Apart.{SelectAt, index_in, index_own}

-- a chip pin with a candidate is on the socket, and the candidate is that of its place
pub record OnSocket (d : Description) (pin g : ℕ) : Type 0 where
  pub place : ℕ
  pub on : pin_socket d pin ≡ Some place
  pub candidate : CandidateOf (candidates_of d.board (socket place)) g

seated : (b : Board) (o : Option ℕ) (g : ℕ) → CandidateOf (socket_candidates b o) g → (p : ℕ) × (o ≡ Some p) × CandidateOf (candidates_of b (socket p)) g
seated b (Some p) g c = (p, refl, c)
seated b None g c = absurd c

pub on-socket : (d : Description) (pin g : ℕ) → CandidateOf (pin_candidates d pin) g → OnSocket d pin g
unfolding pin_candidates
on-socket d pin g c = let s = seated d.board (pin_socket d pin) g c in record { place = s.0; on = s.1; candidate = s.2 }

-- two chip pins with one candidate are one
place_of : BoardPin → ℕ
place_of (socket p) = p
place_of x1 = 0
place_of x2 = 0

pub one-pin : (d : Description) (a : AddrLayout) → WellWired d a → (p q g : ℕ) → CandidateOf (pin_candidates d p) g → CandidateOf (pin_candidates d q) g → p ≡ q
unfolding place_of
one-pin d a w p q g c e =
    let s = on-socket d p g c in
    let t = on-socket d q g e in
    let shared = w.unshared (socket s.place) (socket t.place) g (place_in d p _ s.on) (place_in d q _ t.on) in
    let same : s.place ≡ t.place = ap place_of (shared s.candidate t.candidate) in
    same_place d p q t.place (s.on ∙ ap Some same) t.on

-- a pin that has not two candidates has its first
first_one : (c : Candidates) (g : ℕ) → two c ≡ false → CandidateOf c g → addr.FirstOf c g
first_one Absent g e c = c
first_one (One a) g e c = c
first_one (Two a b) g e c = cc

module _ (d : Description) (a : AddrLayout) (ca cc' : ℕ) (found : addr.FoundBest d ca a) (c : CsDataLayout) (laid : cs.SoundLayout d cc' c)
    (wired : WellWired d a) where
  data_distinct : Distinct c.num_data_pins (cs.data_gpio c)
  data_distinct j k l m e =
      let pins = one-pin d a wired (data_pin d j) (data_pin d k) (cs.data_gpio c j) (laid.data-candidate j l)
      (subst (λ (g : ℕ). CandidateOf (pin_candidates d (data_pin d k)) g) (sym e) (laid.data-candidate k m)) in
      wired.data-apart j k (omega (arith, laid.data-count, l)) (omega (arith, laid.data-count, m)) pins

  data-lines : c.num_data_pins ≡ 8 * d.word_bytes
  data-lines = laid.data-count ∙ wired.data-lines

  data_in : (k : ℕ) → k < c.num_data_pins → data_position c k < 8 * d.word_bytes
  data_in k l = rw (← data-lines) (laid.data-below data_distinct k l)

  data-own : (j k : ℕ) → j < c.num_data_pins → k < c.num_data_pins → data_position c j ≡ data_position c k → j ≡ k
  data-own j k l m e = data_distinct j k l m (omega (arith, laid.data-above j l, laid.data-above k m, e))

  -- in Multi the select
  module _ (m : is_multi d.set_type ≡ true) where
    pub selects : OnSocket d (select_pin d) (cs.select_gpio c 0)
    selects = on-socket d (select_pin d) (cs.select_gpio c 0) (laid.select-candidate m)

    first_is : first_select c ≡ Some (cs.select_gpio c 0)
    first_is = rw (ne_eqb c.num_select_lines 0 (λ e. omega (arith, laid.some-select, e)))

    first_of : addr.FirstOf (kind_candidates d d.multi.select) (cs.select_gpio c 0)
    first_of =
        rw (ne_eqb (kind_pin d d.multi.select) 0 (laid.select-on m))
        (first_one (pin_candidates d (select_pin d)) (cs.select_gpio c 0) (wired.select-one m) (laid.select-candidate m))

    spanned-first : addr.Spanned d (λ k. gpio_at (addr_listed d) ca k) (cs.select_gpio c 0)
    spanned-first = of_select m first_of

    pub select-at : SelectAt d a c selects.place
    select-at = record {
      on = selects.on;
      gpio = cs.select_gpio c 0;
      first = first_is;
      candidate = selects.candidate;
      inside = (found.fit.extent.lowest (cs.select_gpio c 0) spanned-first, found.fit.extent.inside (cs.select_gpio c 0) spanned-first);
    }

  told_by : (s : ℕ) → (is_multi d.set_type ≡ true → SelectAt d a c s) → ToldApart d a c
  told_by s sel = record {
    index_in = index_in d ca a found.sound c s wired sel;
    index_own = index_own d ca a found.sound c s wired sel;
    data-lines = data-lines;
    data_in = data_in;
    data-own = data-own;
  }

  pub told-apart : ToldApart d a c
  told-apart = by (is_multi d.set_type) refl where
    by : (t : Bool) → is_multi d.set_type ≡ t → ToldApart d a c
    by true e = told_by (selects e).place (λ m. select-at e)
    by false e = told_by 0 (λ m. let z : ◌≡◌ {A = Bool} false true = sym e ∙ m in absurd (zero_one cc))
