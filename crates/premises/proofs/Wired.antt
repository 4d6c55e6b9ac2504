-- The test passes only a description and a layout that are well wired. Assumes nothing.
use mathlib.Core.Path.{◌≡◌, refl, sym, ◌∙◌, ap, subst}
use mathlib.Core.Logic.{inl, inr}
use mathlib.Core.Bool.{Bool, true, false, ◌&&◌, ◌||◌, not, cond}
use Prim.Native.Nat.{ℕ, ◌+◌, ◌-◌, ◌<◌}
use native.Mathlib.Omega.{arith}
use lib.Dec.{leb, ltb, eqb}
use borrow.Author.Tests.{ltb-true, leb-true, eqb-true, eqb-false, not-true, lt-ltb, le-ltb, le-leb, eq-eqb, ne_eqb}
use Rattle.gpio.specs.declared.candidates.Candidates.{Candidates}
use Rattle.gpio.specs.declared.candidates.Candidates.TheVariants.{Absent, One, Two}
use Rattle.lists.proofs.Bools.{and_left, and_right, asked}
use Rattle.lists.proofs.Each.{each_at}
use Rattle.slot.specs.Description.{is_single, is_multi}
use Rattle.slot.specs.declared.description.Board.{Board}
use Rattle.slot.specs.declared.description.Description.{Description}
use Rattle.listing.specs.Choice.{CandidateOf}
use Rattle.addr_lines.specs.Range.{in_range}
use Rattle.addr_law.specs.Law.{InWindow}
use Rattle.addr_layout.specs.declared.layout.AddrLayout.{AddrLayout}
use Rattle.cs_data_layout.specs.Choices.{num_data}
use Rattle.premises.specs.WellWired.{BoardPin, candidates_of, PinOf, Unshared, address_pin, data_pin, select_pin, OneInside, WellWired}
use Rattle.premises.specs.WellWired.BoardPin.{socket, x1, x2}
use Rattle.premises.specs.Wired.{
  pin_numbered,
  board_pin,
  holds,
  disjoint,
  alone_at,
  unshared_among,
  unshared,
  apart_from,
  apart,
  none_on,
  lines_apart,
  select_apart,
  data_apart,
  data_lines_whole,
  select_one,
  unqualified,
  in_addr_window,
  one_of,
  one_in_addr_window,
  wired,
}
use Rattle.premises.proofs.Truths.{clash, or_right, unless}

-- a candidate is held
holds_of : (c : Candidates) (g : ℕ) → CandidateOf c g → holds c g ≡ true
holds_of Absent g h = absurd h
holds_of (One a) g h = eq-eqb g a h
holds_of (Two a b) g h = elim h [ inl q ↦ rw (eq-eqb g a q) | inr q ↦ or_right (eqb g a) (eqb g b) (eq-eqb g b q) ]

neither : (t : Bool) → not t ≡ true → t ≡ true → ⊥
neither t e f = clash t f (not-true t e)

-- pins with no candidate in common share none
not_shared : (c e : Candidates) (g : ℕ) → disjoint c e ≡ true → CandidateOf c g → CandidateOf e g → ⊥
not_shared Absent e g t h k = h
not_shared (One a) e g t h k = neither (holds e a) t (subst (λ (x : ℕ). holds e x ≡ true) h (holds_of e g k))
not_shared (Two a b) e g t h k = elim h [
  | inl q ↦ neither (holds e a) (and_left (not (holds e a)) (not (holds e b)) t) (subst (λ (x : ℕ). holds e x ≡ true) q (holds_of e g k))
  | inr q ↦ neither (holds e b) (and_right (not (holds e a)) (not (holds e b)) t) (subst (λ (x : ℕ). holds e x ≡ true) q (holds_of e g k))
]

-- a pin of the board has a number
record Numbered (n : ℕ) (p : BoardPin) : Type 0 where
  pub number : ℕ
  pub below : number < n + 2
  pub same : pin_numbered n number ≡ p

numbered : (b : Board) (p : BoardPin) → PinOf b p → Numbered b.pins p
numbered b (socket s) h =
    let l : s - 1 < b.pins = omega (arith, h.0, h.1) in
    let e : s - 1 + 1 ≡ s = omega (arith, h.0) in
    record { number = s - 1; below = omega (arith, l); same = rw (lt-ltb _ _ l, e) }
numbered b x1 h =
    let n = b.pins in
    record { number = n; below = omega arith; same = rw (le-ltb n n (omega arith), eq-eqb n n refl) }
numbered b x2 h =
    let n = b.pins in
    record { number = n + 1; below = omega arith; same = rw (le-ltb (n + 1) n (omega arith), ne_eqb (n + 1) n (λ e. omega arith)) }

-- pins that share a candidate have one number
one_number : (n : ℕ) (b : Board) (i j g : ℕ) (t : Bool) → eqb i j ≡ t → t || disjoint (board_pin n b i) (board_pin n b j) ≡ true
    → CandidateOf (board_pin n b i) g → CandidateOf (board_pin n b j) g → i ≡ j
one_number n b i j g true e f h k = eqb-true i j e
one_number n b i j g false e f h k = absurd (not_shared (board_pin n b i) (board_pin n b j) g f h k)

unshared_is : (b : Board) → unshared b ≡ true → Unshared b
unfolding unshared_among alone_at
unshared_is b e p q g on on' h k =
    let n = b.pins in
    let u = numbered b p on in
    let v = numbered b q on' in
    let i = u.number in
    let j = v.number in
    let t = each_at _ (n + 2) (each_at _ (n + 2) e i u.below) j v.below in
    let hi = subst (λ (r : BoardPin). CandidateOf (candidates_of b r) g) (sym u.same) h in
    let kj = subst (λ (r : BoardPin). CandidateOf (candidates_of b r) g) (sym v.same) k in
    let same : i ≡ j = one_number n b i j g (eqb i j) refl t hi kj in
    sym u.same ∙ ap (λ (x : ℕ). pin_numbered n x) same ∙ v.same

-- lines on one pin are one line
one_line : (pin : ℕ → ℕ) (j k : ℕ) (t : Bool) → eqb j k ≡ t → t || not (eqb (pin j) (pin k)) ≡ true → pin j ≡ pin k → j ≡ k
one_line pin j k true e f p = eqb-true j k e
one_line pin j k false e f p = absurd (eqb-false (pin j) (pin k) (not-true _ f) p)

apart_is : (n : ℕ) (pin : ℕ → ℕ) → apart n pin ≡ true → (j k : ℕ) → j < n → k < n → pin j ≡ pin k → j ≡ k
unfolding apart apart_from
apart_is n pin e j k l m p = one_line pin j k (eqb j k) refl (each_at _ n (each_at _ n e j l) k m) p

none_is : (n : ℕ) (pin : ℕ → ℕ) (p : ℕ) → none_on n pin p ≡ true → (k : ℕ) → k < n → pin k ≡ p → ⊥
unfolding none_on
none_is n pin p e k l q = eqb-false (pin k) p (not-true _ (each_at _ n e k l)) q

-- the window's test
pub window_is : (a : AddrLayout) (g : ℕ) → in_addr_window a g ≡ true → InWindow a g
window_is a g e =
    let low = leb a.gpio_base g in
    let high = ltb g (a.gpio_base + a.num_addr_pins) in
    (leb-true _ _ (and_left low high e), ltb-true _ _ (and_right low high e))

pub window_of : (a : AddrLayout) (g : ℕ) → InWindow a g → in_addr_window a g ≡ true
window_of a g w = rw (le-leb _ _ w.0, lt-ltb _ _ w.1)

-- a GPIO in the window is not the candidate outside
outside : (a : AddrLayout) (g x : ℕ) → in_addr_window a g ≡ false → x ≡ g → InWindow a x → ⊥
outside a g x e q w = clash (in_addr_window a g) (window_of a g (subst (λ (y : ℕ). InWindow a y) q w)) e

two-inside : (a : AddrLayout) (g h : ℕ) (t u : Bool) → in_addr_window a g ≡ t → in_addr_window a h ≡ u → one_of t u (eqb g h) ≡ true → OneInside a (Two g h)
two-inside a g h true true e f o = record {
  gpio = g;
  candidate = inl refl;
  inside = window_is a g e;
  only = λ x k w. elim k [ inl q ↦ q | inr q ↦ q ∙ sym (eqb-true g h o) ];
}
two-inside a g h true false e f o = record {
  gpio = g;
  candidate = inl refl;
  inside = window_is a g e;
  only = λ x k w. elim k [ inl q ↦ q | inr q ↦ absurd (outside a h x f q w) ];
}
two-inside a g h false true e f o = record {
  gpio = h;
  candidate = inr refl;
  inside = window_is a h f;
  only = λ x k w. elim k [ inl q ↦ absurd (outside a g x e q w) | inr q ↦ q ];
}
two-inside a g h false false e f o = absurd (clash false o refl)

one_inside : (a : AddrLayout) (c : Candidates) → one_in_addr_window a c ≡ true → OneInside a c
one_inside a Absent e = absurd (clash false e refl)
one_inside a (One g) e = record { gpio = g; candidate = refl; inside = window_is a g e; only = λ x k w. k }
one_inside a (Two g h) e = two-inside a g h (in_addr_window a g) (in_addr_window a h) refl refl e

pub wired_is : (d : Description) (a : AddrLayout) → wired d a ≡ true → WellWired d a
unfolding wired
wired_is d a e =
    let single = is_single d.set_type in
    let multi = is_multi d.set_type in
    let third = leb 3 d.num_chips in
    let select = not multi || select_apart d in
    let one = not multi || select_one d in
    let none = not multi || unqualified d in
    let in1 = one_in_addr_window a d.board.x1 in
    let in2 = one_in_addr_window a d.board.x2 in
    let upTo1 = unshared d.board && lines_apart d in
    let upTo2 = upTo1 && select in
    let upTo3 = upTo2 && data_apart d in
    let upTo4 = upTo3 && data_lines_whole d in
    let upTo5 = upTo4 && one in
    let upTo6 = upTo5 && none in
    let upTo7 = upTo6 && (single || in1) in
    let e7 = and_left upTo7 (single || (not third || in2)) e in
    let e6 = and_left upTo6 (single || in1) e7 in
    let e5 = and_left upTo5 none e6 in
    let e4 = and_left upTo4 one e5 in
    let e3 = and_left upTo3 (data_lines_whole d) e4 in
    let e2 = and_left upTo2 (data_apart d) e3 in
    let e1 = and_left upTo1 select e2 in
    let last = and_right upTo7 (single || (not third || in2)) e in
    record {
      unshared = unshared_is d.board (and_left (unshared d.board) (lines_apart d) e1);
      lines-apart = apart_is (in_range d) (λ n. address_pin d n) (and_right (unshared d.board) (lines_apart d) e1);
      select_apart = λ m.
          none_is (in_range d) (λ n. address_pin d n) (select_pin d) (asked multi (select_apart d) (and_right upTo1 select e2) m);
      data-apart = apart_is (num_data d) (λ n. data_pin d n) (and_right upTo2 (data_apart d) e3);
      data-lines = eqb-true _ _ (and_right upTo3 (data_lines_whole d) e4);
      select-one = λ m. not-true _ (asked multi (select_one d) (and_right upTo4 one e5) m);
      no_qualifiers = λ m. eqb-true _ _ (asked multi (unqualified d) (and_right upTo5 none e6) m);
      x1-inside = λ s. one_inside a d.board.x1 (unless single in1 (and_right upTo6 (single || in1) e7) s);
      x2-inside = λ s l. one_inside a d.board.x2 (asked third in2 (unless single (not third || in2) last s) (le-leb 3 _ l));
    }
