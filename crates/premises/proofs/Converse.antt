-- And the test passes all that is well wired. Assumes nothing.
use mathlib.Core.Path.{◌≡◌, refl, sym, ◌∙◌, ap, subst}
use mathlib.Core.Logic.{inl, inr}
use mathlib.Core.Bool.{Bool, true, false, ◌&&◌, ◌||◌, not, cond}
use Prim.Native.Nat.{ℕ, ◌+◌, ◌-◌, ◌<◌}
use native.Mathlib.Omega.{arith}
use lib.Dec.{leb, ltb, eqb}
use borrow.Author.Tests.{ltb-true, ltb-false, leb-true, eqb-true, eqb-false, eq-eqb, ne_eqb}
use Rattle.gpio.specs.declared.candidates.Candidates.{Candidates}
use Rattle.gpio.specs.declared.candidates.Candidates.TheVariants.{Absent, One, Two}
use Rattle.lists.proofs.Each.{each_all}
use Rattle.slot.specs.Description.{is_single, is_multi}
use Rattle.slot.specs.declared.description.Board.{Board}
use Rattle.slot.specs.declared.description.Description.{Description}
use Rattle.listing.specs.Choice.{CandidateOf}
use Rattle.addr_lines.specs.Range.{in_range}
use Rattle.addr_law.specs.Law.{InWindow}
use Rattle.addr_layout.specs.declared.layout.AddrLayout.{AddrLayout}
use Rattle.cs_data_layout.specs.Choices.{num_data}
use Rattle.premises.specs.WellWired.{BoardPin, PinOf, Unshared, address_pin, data_pin, select_pin, OneInside, WellWired}
use Rattle.premises.specs.WellWired.BoardPin.{socket, x1, x2}
use Rattle.premises.specs.Wired.{
  pin_numbered,
  board_pin,
  holds,
  disjoint,
  alone_at,
  unshared_among,
  unshared,
  apart_from,
  apart,
  none_on,
  select_apart,
  data_lines_whole,
  select_one,
  unqualified,
  in_addr_window,
  one_of,
  one_in_addr_window,
  wired,
}
use Rattle.premises.proofs.Truths.{clash, fails, all, asked_if, unless_if}
use Rattle.premises.proofs.Wired.{window_is, window_of}

-- what is held is a candidate
either : (t u : Bool) (g a b : ℕ) → eqb g a ≡ t → eqb g b ≡ u → t || u ≡ true → CandidateOf (Two a b) g
either true u g a b e f h = inl (eqb-true g a e)
either false true g a b e f h = inr (eqb-true g b f)
either false false g a b e f h = absurd (clash false h refl)

held : (c : Candidates) (g : ℕ) → holds c g ≡ true → CandidateOf c g
held Absent g h = clash false h refl
held (One a) g h = eqb-true g a h
held (Two a b) g h = either (eqb g a) (eqb g b) g a b refl refl h

-- pins that share no candidate
apart-at : (c e : Candidates) (a : ℕ) → ((g : ℕ) → CandidateOf c g → CandidateOf e g → ⊥) → CandidateOf c a → not (holds e a) ≡ true
apart-at c e a h k = rw (fails (holds e a) (λ t. h a k (held e a t)))

disjoint_if : (c e : Candidates) → ((g : ℕ) → CandidateOf c g → CandidateOf e g → ⊥) → disjoint c e ≡ true
disjoint_if Absent e h = refl
disjoint_if (One a) e h = apart-at (One a) e a h refl
disjoint_if (Two a b) e h = rw (apart-at (Two a b) e a h (inl refl), apart-at (Two a b) e b h (inr refl))

-- the number of a pin
abbrev number_of : ℕ → BoardPin → ℕ
number_of n (socket s) = s - 1
number_of n x1 = n
number_of n x2 = n + 1

number-back : (n i : ℕ) (t u : Bool) → ltb i n ≡ t → eqb i n ≡ u → i < n + 2
    → number_of n (cond t (socket (i + 1)) (cond u x1 x2)) ≡ i
number-back n i true u e f l = omega arith
number-back n i false true e f l = sym (eqb-true i n f)
number-back n i false false e f l =
    let above = ltb-false i n e in
    let other = eqb-false i n f in
    omega (arith, above, other)

one-pin : (n i j : ℕ) → i < n + 2 → j < n + 2 → pin_numbered n i ≡ pin_numbered n j → i ≡ j
one-pin n i j l m e =
    sym (number-back n i (ltb i n) (eqb i n) refl refl l)
    ∙ ap (λ (p : BoardPin). number_of n p) e
    ∙ number-back n j (ltb j n) (eqb j n) refl refl m

pin_of : (b : Board) (i : ℕ) → PinOf b (pin_numbered b.pins i)
pin_of b i = at (ltb i b.pins) (eqb i b.pins) refl where
  at : (t u : Bool) → ltb i b.pins ≡ t → PinOf b (cond t (socket (i + 1)) (cond u x1 x2))
  at true u e = (omega arith, omega (arith, ltb-true i b.pins e))
  at false true e = tt
  at false false e = tt

pins_alone : (b : Board) (i j : ℕ) (t : Bool) → Unshared b → i < b.pins + 2 → j < b.pins + 2 → eqb i j ≡ t
    → t || disjoint (board_pin b.pins b i) (board_pin b.pins b j) ≡ true
pins_alone b i j true h l m e = refl
pins_alone b i j false h l m e =
    let n = b.pins in
    disjoint_if (board_pin n b i) (board_pin n b j)
    (λ g p q. eqb-false i j e (one-pin n i j l m (h (pin_numbered n i) (pin_numbered n j) g (pin_of b i) (pin_of b j) p q)))

unshared_if : (b : Board) → Unshared b → unshared b ≡ true
unfolding unshared_among alone_at
unshared_if b h =
    let n = b.pins in
    each_all _ (n + 2) (λ i l. each_all _ (n + 2) (λ j m. pins_alone b i j (eqb i j) h l m refl))

-- lines on different pins
other_pin : (pin : ℕ → ℕ) (j k : ℕ) (t : Bool) → eqb j k ≡ t → (pin j ≡ pin k → j ≡ k) → t || not (eqb (pin j) (pin k)) ≡ true
other_pin pin j k true e h = refl
other_pin pin j k false e h = rw (ne_eqb (pin j) (pin k) (λ p. eqb-false j k e (h p)))

apart_if : (n : ℕ) (pin : ℕ → ℕ) → ((j k : ℕ) → j < n → k < n → pin j ≡ pin k → j ≡ k) → apart n pin ≡ true
unfolding apart apart_from
apart_if n pin h = each_all _ n (λ j l. each_all _ n (λ k m. other_pin pin j k (eqb j k) refl (h j k l m)))

none_if : (n : ℕ) (pin : ℕ → ℕ) (p : ℕ) → ((k : ℕ) → k < n → pin k ≡ p → ⊥) → none_on n pin p ≡ true
unfolding none_on
none_if n pin p h = each_all _ n (λ k l. rw (ne_eqb (pin k) p (h k l)))

-- one candidate in the window
one_of_lem : (t u s : Bool) → (t ≡ false → u ≡ true) → (t ≡ true → u ≡ true → s ≡ true) → one_of t u s ≡ true
one_of_lem true true s h k = k refl refl
one_of_lem true false s h k = refl
one_of_lem false u s h k = rw (h refl)

inside-at : (a : AddrLayout) (x g : ℕ) → x ≡ g → InWindow a x → in_addr_window a g ≡ true
inside-at a x g q w = window_of a g (subst (λ (y : ℕ). InWindow a y) q w)

other_inside : (a : AddrLayout) (g h : ℕ) → OneInside a (Two g h) → in_addr_window a g ≡ false → in_addr_window a h ≡ true
other_inside a g h o e = elim o.candidate [
  | inl q ↦ absurd (clash (in_addr_window a g) (inside-at a o.gpio g q o.inside) e)
  | inr q ↦ inside-at a o.gpio h q o.inside
]

inside_if : (a : AddrLayout) (c : Candidates) → OneInside a c → one_in_addr_window a c ≡ true
inside_if a Absent o = absurd o.candidate
inside_if a (One g) o = inside-at a o.gpio g o.candidate o.inside
inside_if a (Two g h) o =
    one_of_lem (in_addr_window a g) (in_addr_window a h) (eqb g h) (other_inside a g h o)
    (λ e f. eq-eqb g h (o.only g (inl refl) (window_is a g e) ∙ sym (o.only h (inr refl) (window_is a h f))))

pub wired_if : (d : Description) (a : AddrLayout) → WellWired d a → wired d a ≡ true
unfolding wired
wired_if d a w =
    let single = is_single d.set_type in
    let multi = is_multi d.set_type in
    let third = leb 3 d.num_chips in
    let in1 = one_in_addr_window a d.board.x1 in
    let in2 = one_in_addr_window a d.board.x2 in
    let e0 = unshared_if d.board w.unshared in
    let e1 = apart_if (in_range d) (λ n. address_pin d n) w.lines-apart in
    let e2 = asked_if multi (select_apart d) (λ m. none_if (in_range d) (λ n. address_pin d n) (select_pin d) (w.select_apart m)) in
    let e3 = apart_if (num_data d) (λ n. data_pin d n) w.data-apart in
    let e4 : data_lines_whole d ≡ true = eq-eqb _ _ w.data-lines in
    let one : multi ≡ true → select_one d ≡ true = λ m. rw (w.select-one m) in
    let e5 = asked_if multi (select_one d) one in
    let e6 = asked_if multi (unqualified d) (λ m. eq-eqb _ _ (w.no_qualifiers m)) in
    let e7 = unless_if single in1 (λ s. inside_if a d.board.x1 (w.x1-inside s)) in
    let x2_in : single ≡ false → third ≡ true → in2 ≡ true =
    λ s t. inside_if a d.board.x2 (w.x2-inside s (leb-true 3 _ t)) in
    let e8 = unless_if single (not third || in2) (λ s. asked_if third in2 (x2_in s)) in
    all _ _ (all _ _ (all _ _ (all _ _ (all _ _ (all _ _ (all _ _ (all _ _ e0 e1) e2) e3) e4) e5) e6) e7) e8
