-- What read-back is given beside a built table has the same lines. Assumes nothing.
use Rattle.std.specs.Prelude.{Option}
use mathlib.Core.Path.{◌≡◌, refl, sym, ◌∙◌, ap, subst}
use mathlib.Core.Bool.{Bool, true, false, cond}
use mathlib.Core.Logic.{inl, inr}
use Prim.Native.Nat.{ℕ, zero, suc, ◌+◌, ◌-◌, ◌≤◌, ◌<◌}
use native.Mathlib.Omega.{arith}
use lib.Dec.{leb, ltb, eqb}
use lib.ListN.{get_or}
use borrow.Author.Tests.{leb-true, ltb-true, le-leb, lt-ltb, ne_eqb}
use Rattle.lists.proofs.Bools.{and_left, and_right}
use Rattle.lists.proofs.Each.{each_all}
use Rattle.lists.proofs.Loops.{zero_one}
use Rattle.gpio.specs.declared.candidates.Candidates.{Candidates}
use Rattle.gpio.specs.declared.candidates.Candidates.TheVariants.{Absent, One, Two}
use Rattle.bits.specs.Bits.{bit}
use Rattle.slot.specs.Description.{is_single, is_multi}
use Rattle.slot.specs.declared.description.ChipSetType.{ChipSetType}
use Rattle.slot.specs.declared.description.ChipSetType.TheVariants.{Single, Banked, Multi}
use Rattle.slot.specs.declared.description.Description.{Description}
use Rattle.listing.specs.Choice.{CandidateOf}
use Rattle.addr_law.specs.Law.{InWindow, XLaid, SoundLayout}
use Rattle.addr_layout.specs.declared.layout.AddrLayout.{AddrLayout}
use Rattle.cs_data_layout.specs.declared.layout.CsDataLayout.{CsDataLayout}
use Rattle.picks.specs.Positions.{x_position}
use Rattle.build_args.specs.Picks.{x_gpio, pick_of}
use Rattle.picks.specs.Picks.{x_lines, picks_of}
use Rattle.stored_slot.specs.Stored as stored
use Rattle.stored_slot.specs.Words as sizes
use Rattle.unscramble.specs.Words as read
use Rattle.stored_slot.specs.declared.stored.StoredSlot.{StoredSlot}
use Rattle.premises.specs.WellWired.{OneInside, WellWired, StoredAs, Unforced}
use Rattle.round_trip.proofs.Fitted.{Fitted}
use Rattle.round_trip.proofs.Apart.{x_few, x_third}

suc_less : (k : ℕ) → suc k - 1 ≡ k
suc_less k = omega arith

module _ (d : Description) (a : AddrLayout) (c : CsDataLayout) (s : StoredSlot) (g : StoredAs d a c s) where
  -- the window as a test
  pub window_is : (h : ℕ) → stored.in_window s h ≡ true → InWindow a h
  window_is h e =
      let l = leb-true (stored.addr_base s) h (and_left (leb (stored.addr_base s) h) (ltb (h - stored.addr_base s) (stored.stored_pins s)) e) in
      let m = ltb-true (h - stored.addr_base s) (stored.stored_pins s) (and_right (leb (stored.addr_base s) h) (ltb (h - stored.addr_base s) (stored.stored_pins s)) e) in
      (omega (arith, g.addr-base, l), omega (arith, g.addr-base, g.pins, l, m))

  pub is_window : (h : ℕ) → InWindow a h → stored.in_window s h ≡ true
  is_window h w =
      let l : stored.addr_base s ≤ h = omega (arith, g.addr-base, w.0) in
      let m : h - stored.addr_base s < stored.stored_pins s = omega (arith, g.addr-base, g.pins, w.0, w.1) in
      rw (le-leb _ _ l, lt-ltb _ _ m)

  -- the X pin's GPIO that read-back takes is the layout's
  inside-two : (h i p : ℕ) (t : Bool) → stored.in_window s h ≡ t → OneInside a (Two h i) → CandidateOf (Two h i) p → InWindow a p → cond t h i ≡ p
  inside-two h i p true e o k w = o.only h (inl refl) (window_is h e) ∙ sym (o.only p k w)
  inside-two h i p false e o (inr q) w = sym q
  inside-two h i p false e o (inl q) w =
      let z : ◌≡◌ {A = Bool} true false = sym (is_window h (subst (InWindow a) q w)) ∙ e in
      absurd (zero_one cc)

  x_inside : (x : Candidates) (p : ℕ) → OneInside a x → CandidateOf x p → InWindow a p → stored.x_inside s x ≡ p
  x_inside Absent p o k w = absurd k
  x_inside (One h) p o k w = sym k
  x_inside (Two h i) p o k w = inside-two h i p (stored.in_window s h) refl o k w

  module _ (ca : ℕ) (sound : SoundLayout d ca a) (wired : WellWired d a) where
    x_same : (x : Candidates) (y : Option ℕ) (z : Candidates) → z ≡ x → OneInside a x → XLaid a x y
        → stored.x_inside s z - stored.addr_base s ≡ x_position a.gpio_base y
    x_same x y z e o l =
        ap (λ (v : Candidates). stored.x_inside s v - stored.addr_base s) e
        ∙ ap (λ (v : ℕ). v - stored.addr_base s) (x_inside x l.0 o l.2 l.3)
        ∙ ap (λ (v : ℕ). l.0 - v) g.addr-base
        ∙ ap (x_position a.gpio_base) (sym l.1)

    x_position_lem : is_single d.set_type ≡ false → (k : ℕ) → k < x_lines d.num_chips
        → sizes.x_at s k - stored.addr_base s ≡ x_position a.gpio_base (x_gpio a k)
    x_position_lem m zero l = x_same d.board.x1 a.x1_gpio s.x1 g.x1 (wired.x1-inside m) (sound.x1 m)
    x_position_lem m (suc zero) l =
        let three = x_third d.num_chips 1 (leb 3 d.num_chips) refl l (omega arith) in
        x_same d.board.x2 a.x2_gpio s.x2 g.x2 (wired.x2-inside m three) (sound.x2 m three)
    x_position_lem m (suc (suc k)) l = absurd (omega (arith, x_few d.num_chips (suc (suc k)) (leb 3 d.num_chips) refl l))

    later_pick : (k : ℕ) → pick_of Multi a c (suc k) ≡ x_gpio a k
    later_pick k = rw (ne_eqb (suc k) 0 (λ e. omega arith), suc_less k)

    multi-position : is_multi d.set_type ≡ true → is_single d.set_type ≡ false → (k : ℕ) → k < 1 + x_lines d.num_chips
        → sizes.pick_gpio s Multi k - stored.addr_base s ≡ x_position a.gpio_base (pick_of Multi a c k)
    multi-position m o zero l =
        ap (λ (v : ℕ). stored.stored_select s - v) g.addr-base ∙ ap (x_position a.gpio_base) (sym (g.select m))
    multi-position m o (suc k) l =
        x_position_lem o k (omega arith)
        ∙ ap (x_position a.gpio_base) (sym (later_pick k))

    pick-position : (t : ChipSetType) → d.set_type ≡ t → (k : ℕ) → k < picks_of t d.num_chips
        → sizes.stored_pick_position s t k ≡ x_position a.gpio_base (pick_of t a c k)
    pick-position Single e k l = absurd (omega arith)
    pick-position Banked e k l = x_position_lem (ap is_single e) k l
    pick-position Multi e k l = multi-position (ap is_multi e) (ap is_single e) k l

    -- nothing is forced
    free-bit : (p b : ℕ) (high low : Bool) → high ≡ false → low ≡ false → cond high (eqb b 1) (cond low (eqb b 0) true) ≡ true
    free-bit p b true low e f = cc
    free-bit p b false true e f = cc
    free-bit p b false false e f = refl

    free_index : Unforced a s → (i : ℕ) → stored.free s i ≡ true
    unfolding stored.free
    free_index unforced i = each_all _ (stored.stored_pins s) (λ p l.
        let u = unforced (stored.addr_base s + p) (omega (arith, g.addr-base), omega (arith, g.addr-base, g.pins, l)) in
        free-bit p (bit i p) _ _ u.1 u.0)

    pub fitted : Unforced a s → Fitted d a c s
    fitted unforced = record {
      chips = g.roms;
      bytes = g.word_bytes;
      pins = g.pins;
      size = λ k l. (g.rom k l).size;
      lines = λ k l. (g.rom k l).lines;
      line = λ k n l m. ap (λ (v : ℕ). v - stored.addr_base s) ((g.rom k l).line n m) ∙ ap (λ (v : ℕ). get_or a.gpios n 0 - v) g.addr-base;
      data-line = λ k n l m. ap (λ (v : ℕ). v - stored.stored_data_base s) ((g.rom k l).data-line n m) ∙ ap (λ (v : ℕ). get_or c.data_pin_gpios n 0 - v) g.data-base;
      pick = λ k l. pick-position d.set_type refl k l;
      unforced = free_index unforced;
    }
