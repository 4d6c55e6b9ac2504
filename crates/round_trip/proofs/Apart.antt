-- Well wired, the lines of an index are told apart: each has a pin of its own, and so a GPIO and a position of its own. Assumes nothing.
use Rattle.std.specs.Prelude.{Option, Some, None}
use mathlib.Core.Path.{◌≡◌, refl, sym, ◌∙◌, ap, subst}
use mathlib.Core.Bool.{Bool, true, false, cond}
use Prim.Native.Nat.{ℕ, zero, suc, ◌+◌, ◌-◌, ◌≤◌, ◌<◌}
use native.Mathlib.Omega.{arith}
use lib.Dec.{leb, eqb, ltb}
use lib.ListN.{get_or}
use borrow.Author.Tests.{leb-true, eqb-true, eqb-false, ltb-true, ltb-false}
use Rattle.lists.proofs.Loops.{zero_one}
use Rattle.slot.specs.Description.{is_single, is_multi}
use Rattle.slot.specs.declared.description.Board.{Board}
use Rattle.slot.specs.declared.description.ChipSetType.{ChipSetType}
use Rattle.slot.specs.declared.description.ChipSetType.TheVariants.{Single, Banked, Multi}
use Rattle.slot.specs.declared.description.Description.{Description}
use Rattle.listing.specs.Choice.{CandidateOf}
use Rattle.listing.specs.Lines.{pin_socket}
use Rattle.addr_lines.specs.Lines.{line_socket, off_before}
use Rattle.addr_lines.specs.Range.{in_range}
use Rattle.addr_law.specs.Law.{InWindow, XLaid, SoundLayout}
use Rattle.addr_layout.specs.declared.layout.AddrLayout.{AddrLayout}
use Rattle.cs_data_layout.specs.declared.layout.CsDataLayout.{CsDataLayout}
use Rattle.build_args.specs.Positions.{line_position}
use Rattle.picks.specs.Positions.{x_position}
use Rattle.build_args.specs.Picks.{num_picks, first_select, x_gpio, pick_of, pick_position}
use Rattle.picks.specs.Picks.{x_lines, picks_of}
use Rattle.premises.specs.WellWired.{BoardPin, candidates_of, PinOf, Unshared, address_pin, select_pin, WellWired}
use Rattle.premises.specs.WellWired.BoardPin.{socket, x1, x2}
use Rattle.round_trip.proofs.Fitted.{index_position}
use Rattle.round_trip.proofs.Pins.{Behind, line-behind, line_pin, line_pin_in, pin_behind, lines-own, place_in, same_place, same_x, apart_x}

-- a line at a position: its GPIO is a candidate of its pin, and in the window
pub record Line (b : Board) (a : AddrLayout) (position : ℕ) (pin : BoardPin) : Type 0 where
  pub gpio : ℕ
  pub at : position ≡ gpio - a.gpio_base
  pub on-board : PinOf b pin
  pub candidate : CandidateOf (candidates_of b pin) gpio
  pub inside : InWindow a gpio

pub line_in : (b : Board) (a : AddrLayout) (p : ℕ) (pin : BoardPin) → Line b a p pin → p < a.num_addr_pins
line_in b a p pin l = omega (arith, l.at, l.inside.0, l.inside.1)

-- two lines at one position have one pin
pub line-own : (b : Board) (a : AddrLayout) (p q : ℕ) (u v : BoardPin) → Unshared b → Line b a p u → Line b a q v → p ≡ q → u ≡ v
line-own b a p q u v n l m e =
    let same : m.gpio ≡ l.gpio = omega (arith, l.at, m.at, l.inside.0, m.inside.0, e) in
    n u v l.gpio l.on-board m.on-board l.candidate (subst (λ (g : ℕ). CandidateOf (candidates_of b v) g) same m.candidate)

-- the pins of the lines that pick: X1, X2; in Multi the select's place of the socket before them
abbrev pub x_pin : ℕ → BoardPin
x_pin k = cond (eqb k 0) x1 x2

abbrev pub pick_pin : ChipSetType → ℕ → ℕ → BoardPin
pick_pin Single s k = x1
pick_pin Banked s k = x_pin k
pick_pin Multi s k = cond (eqb k 0) (socket s) (x_pin (k - 1))

pub x_few : (n k : ℕ) (t : Bool) → leb 3 n ≡ t → k < cond t 2 1 → k < 2
x_few n k true e l = l
x_few n k false e l = omega arith

pub x_third : (n k : ℕ) (t : Bool) → leb 3 n ≡ t → k < cond t 2 1 → 1 ≤ k → 3 ≤ n
x_third n k true e l h = leb-true 3 n e
x_third n k false e l h = absurd (omega arith)

-- the select of a Multi set: at a place of the socket, with the first select line's GPIO
pub record SelectAt (d : Description) (a : AddrLayout) (c : CsDataLayout) (s : ℕ) : Type 0 where
  pub on : pin_socket d (select_pin d) ≡ Some s
  pub gpio : ℕ
  pub first : first_select c ≡ Some gpio
  pub candidate : CandidateOf (candidates_of d.board (socket s)) gpio
  pub inside : InWindow a gpio

module _ (d : Description) (ca : ℕ) (a : AddrLayout) (sound : SoundLayout d ca a) (c : CsDataLayout) (s : ℕ) where
  x_laid : (pin : BoardPin) (x : Option ℕ) → PinOf d.board pin → XLaid a (candidates_of d.board pin) x
      → Line d.board a (x_position a.gpio_base x) pin
  x_laid pin x p l = record { gpio = l.0; at = ap (x_position a.gpio_base) l.1; on-board = p; candidate = l.2; inside = l.3 }

  x_line : is_single d.set_type ≡ false → (k : ℕ) → k < x_lines d.num_chips → Line d.board a (x_position a.gpio_base (x_gpio a k)) (x_pin k)
  x_line m zero l = x_laid x1 a.x1_gpio tt (sound.x1 m)
  x_line m (suc zero) l = x_laid x2 a.x2_gpio tt (sound.x2 m (x_third d.num_chips 1 (leb 3 d.num_chips) refl l (omega arith)))
  x_line m (suc (suc k)) l = absurd (omega (arith, x_few d.num_chips (suc (suc k)) (leb 3 d.num_chips) refl l))

  multi-line : is_single d.set_type ≡ false → SelectAt d a c s → (k : ℕ) (z : Bool) → eqb k 0 ≡ z → k < 1 + x_lines d.num_chips
      → Line d.board a (x_position a.gpio_base (cond z (first_select c) (x_gpio a (k - 1)))) (cond z (socket s) (x_pin (k - 1)))
  multi-line m sel k true e l = record {
    gpio = sel.gpio;
    at = ap (x_position a.gpio_base) sel.first;
    on-board = place_in d (select_pin d) s sel.on;
    candidate = sel.candidate;
    inside = sel.inside;
  }
  multi-line m sel k false e l = x_line m (k - 1) (let n = eqb-false k 0 e in omega arith)

  pick-line : (t : ChipSetType) → d.set_type ≡ t → (is_multi d.set_type ≡ true → SelectAt d a c s) → (k : ℕ) → k < picks_of t d.num_chips
      → Line d.board a (x_position a.gpio_base (pick_of t a c k)) (pick_pin t s k)
  pick-line Single e sel k l = absurd (omega arith)
  pick-line Banked e sel k l = x_line (ap is_single e) k l
  pick-line Multi e sel k l = multi-line (ap is_single e) (sel (ap is_multi e)) k (eqb k 0) refl l

-- no two of the picking lines have one pin
x_own : (j k : ℕ) → j < 2 → k < 2 → x_pin j ≡ x_pin k → j ≡ k
x_own j k l m e = same_x j k (eqb j 0) (eqb k 0) l m refl refl e

multi-own : (s j k : ℕ) (y z : Bool) → eqb j 0 ≡ y → eqb k 0 ≡ z → j < 3 → k < 3 → cond y (socket s) (x_pin (j - 1)) ≡ cond z (socket s) (x_pin (k - 1)) → j ≡ k
multi-own s j k true true e f l m q = omega (arith, eqb-true j 0 e, eqb-true k 0 f)
multi-own s j k true false e f l m q = absurd (apart_x s (eqb (k - 1) 0) q)
multi-own s j k false true e f l m q = absurd (apart_x s (eqb (j - 1) 0) (sym q))
multi-own s j k false false e f l m q =
    let g = eqb-false j 0 e in
    let h = eqb-false k 0 f in
    omega (arith, x_own (j - 1) (k - 1) (omega arith) (omega arith) q, g, h)

pick-own : (t : ChipSetType) (n s j k : ℕ) → j < picks_of t n → k < picks_of t n → pick_pin t s j ≡ pick_pin t s k → j ≡ k
pick-own Single n s j k l m q = absurd (omega arith)
pick-own Banked n s j k l m q = x_own j k (x_few n j (leb 3 n) refl l) (x_few n k (leb 3 n) refl m) q
pick-own Multi n s j k l m q =
    multi-own s j k (eqb j 0) (eqb k 0) refl refl (omega (arith, most_x n)) (omega (arith, most_x n)) q where
      most_x : (n : ℕ) → x_lines n ≤ 2
      most_x n = most (leb 3 n) where
        most : (t : Bool) → cond t 2 1 ≤ 2
        most true = omega arith
        most false = omega arith

-- a line of a set that is not Single is on the socket, and its pin is no X pin, nor the select's
on-place : (d : Description) (o : Option ℕ) (before g : ℕ) → is_single d.set_type ≡ false → Behind d o before g → (p : ℕ) × (o ≡ Some p)
on-place d (Some p) before g m b = (p, refl)
on-place d None before g m b = let z : ◌≡◌ {A = Bool} true false = sym (b.alone refl) ∙ m in absurd (zero_one cc)

module _ (d : Description) (n g : ℕ) (m : is_single d.set_type ≡ false) (b : Behind d (line_socket d n) (off_before d n) g) where
  abbrev place : ℕ
  place = (on-place d (line_socket d n) (off_before d n) g m b).0

  placed : line_socket d n ≡ Some place
  placed = (on-place d (line_socket d n) (off_before d n) g m b).1

  pin-placed : line_pin d n ≡ socket place
  pin-placed = ap (λ (o : Option ℕ). pin_behind o (off_before d n)) placed

  not_x : (k : ℕ) → line_pin d n ≡ x_pin k → ⊥
  not_x k q = apart_x place (eqb k 0) (sym pin-placed ∙ q)

  not-select : (s : ℕ) → pin_socket d (select_pin d) ≡ Some s → (address_pin d n ≡ select_pin d → ⊥) → line_pin d n ≡ socket s → ⊥
  unfolding line_socket
  not-select s o apart q =
      let same : place ≡ s = ap place_of (sym pin-placed ∙ q) in
      apart (same_place d (address_pin d n) (select_pin d) s (placed ∙ ap Some same) o)
    where
      place_of : BoardPin → ℕ
      place_of (socket p) = p
      place_of x1 = 0
      place_of x2 = 0

  not-multi : (s k : ℕ) (z : Bool) → pin_socket d (select_pin d) ≡ Some s → (address_pin d n ≡ select_pin d → ⊥) → line_pin d n ≡ cond z (socket s) (x_pin (k - 1)) → ⊥
  not-multi s k true o apart q = not-select s o apart q
  not-multi s k false o apart q = not_x (k - 1) q

-- the lines of the index
module _ (d : Description) (ca : ℕ) (a : AddrLayout) (sound : SoundLayout d ca a) (c : CsDataLayout) (s : ℕ) (wired : WellWired d a)
    (sel : is_multi d.set_type ≡ true → SelectAt d a c s) where
  in_range_lem : (n : ℕ) → n < a.num_lines → n < in_range d
  in_range_lem n l = omega (arith, sound.in_use, l)

  behind-line : (n : ℕ) → n < a.num_lines → Behind d (line_socket d n) (off_before d n) (get_or a.gpios n 0)
  behind-line n l = line-behind d n _ (sound.line-candidate n l)

  line_at : (n : ℕ) → n < a.num_lines → Line d.board a (line_position a n) (line_pin d n)
  line_at n l = record {
    gpio = get_or a.gpios n 0;
    at = refl;
    on-board = line_pin_in d n;
    candidate = (behind-line n l).candidate;
    inside = sound.line-window n l;
  }

  pick_at : (k : ℕ) → k < num_picks d → Line d.board a (pick_position d a c k) (pick_pin d.set_type s k)
  pick_at k l = pick-line d ca a sound c s d.set_type refl sel k l

  abbrev index_pin : ℕ → BoardPin
  index_pin k = cond (ltb k a.num_lines) (line_pin d k) (pick_pin d.set_type s (k - a.num_lines))

  index_line : (k : ℕ) → k < a.num_lines + num_picks d → Line d.board a (index_position d a c k) (index_pin k)
  index_line k l = which (ltb k a.num_lines) refl where
    which : (t : Bool) → ltb k a.num_lines ≡ t
        → Line d.board a (cond t (line_position a k) (pick_position d a c (k - a.num_lines))) (cond t (line_pin d k) (pick_pin d.set_type s (k - a.num_lines)))
    which true e = line_at k (ltb-true k a.num_lines e)
    which false e = let g = ltb-false k a.num_lines e in pick_at (k - a.num_lines) (omega arith)

  -- a line and a picking line
  mixed : (t : ChipSetType) → d.set_type ≡ t → (n k : ℕ) → n < a.num_lines → k < picks_of t d.num_chips → line_pin d n ≡ pick_pin t s k → ⊥
  mixed Single e n k l m q = omega arith
  mixed Banked e n k l m q = not_x d n _ (ap is_single e) (behind-line n l) k q
  mixed Multi e n k l m q =
      not-multi d n _ (ap is_single e) (behind-line n l) s k (eqb k 0) (sel (ap is_multi e)).on (wired.select_apart (ap is_multi e) n (in_range_lem n l)) q

  pins-own : (j k : ℕ) → j < a.num_lines + num_picks d → k < a.num_lines + num_picks d → index_pin j ≡ index_pin k → j ≡ k
  pins-own j k l m q = which (ltb j a.num_lines) (ltb k a.num_lines) refl refl q where
    which : (t u : Bool) → ltb j a.num_lines ≡ t → ltb k a.num_lines ≡ u
        → cond t (line_pin d j) (pick_pin d.set_type s (j - a.num_lines)) ≡ cond u (line_pin d k) (pick_pin d.set_type s (k - a.num_lines)) → j ≡ k
    which true true e f p =
        let x = ltb-true j a.num_lines e in
        let y = ltb-true k a.num_lines f in
        lines-own d j k _ _ (behind-line j x) (behind-line k y) (wired.lines-apart j k (in_range_lem j x) (in_range_lem k y)) p
    which true false e f p =
        let g = ltb-false k a.num_lines f in
        absurd (mixed d.set_type refl j (k - a.num_lines) (ltb-true j a.num_lines e) (omega arith) p)
    which false true e f p =
        let g = ltb-false j a.num_lines e in
        absurd (mixed d.set_type refl k (j - a.num_lines) (ltb-true k a.num_lines f) (omega arith) (sym p))
    which false false e f p =
        let g = ltb-false j a.num_lines e in
        let h = ltb-false k a.num_lines f in
        omega (arith, pick-own d.set_type d.num_chips s (j - a.num_lines) (k - a.num_lines) (omega arith) (omega arith) p, g, h)

  pub index_in : (k : ℕ) → k < a.num_lines + num_picks d → index_position d a c k < a.num_addr_pins
  index_in k l = line_in d.board a _ _ (index_line k l)

  pub index_own : (j k : ℕ) → j < a.num_lines + num_picks d → k < a.num_lines + num_picks d → index_position d a c j ≡ index_position d a c k → j ≡ k
  index_own j k l m e = pins-own j k l m (line-own d.board a _ _ _ _ wired.unshared (index_line j l) (index_line k m) e)
