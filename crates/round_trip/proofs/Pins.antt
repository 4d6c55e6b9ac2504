-- The board's pins behind the lines of an address layout: each line has one, and no two lines the same. Assumes nothing.
use Rattle.std.specs.Prelude.{Option, Some, None}
use mathlib.Core.Path.{◌≡◌, refl, sym, ◌∙◌, ap}
use mathlib.Core.Bool.{Bool, true, false, cond, ◌&&◌}
use mathlib.Core.Logic.{inl, inr}
use Prim.Native.Nat.{ℕ, zero, suc, ◌+◌, ◌-◌, ◌≤◌, ◌<◌}
use native.Mathlib.Nat.{eq-or-lt_of_le}
use native.Mathlib.Omega.{arith}
use lib.Dec.{leb, eqb, ltb}
use borrow.Author.Tests.{leb-true, eqb-true, eqb-false, ltb-true, ltb-false}
use Rattle.lists.specs.Each.{tally}
use Rattle.lists.proofs.Bools.{and_left, and_right}
use Rattle.lists.proofs.Loops.{zero_one}
use Rattle.gpio.specs.declared.candidates.Candidates.TheVariants.{Absent}
use Rattle.slot.specs.Description.{is_single}
use Rattle.slot.specs.SlotContext.{raised_of}
use Rattle.slot.specs.declared.description.Board.{Board}
use Rattle.slot.specs.declared.description.Description.{Description}
use Rattle.refusal.specs.declared.Refusal.TheVariants.{NoValidLayout}
use Rattle.listing.specs.Listing.{listed, x_listed}
use Rattle.listing.specs.Choice.{CandidateOf}
use Rattle.listing.specs.Lines.{pin_socket}
use Rattle.addr_lines.specs.Lines.{line_socket, is_off, off_before, fly_lead, at_socket, line_listed}
use Rattle.premises.specs.WellWired.{BoardPin, candidates_of, PinOf, address_pin}
use Rattle.premises.specs.WellWired.BoardPin.{socket, x1, x2}

-- two chip pins at one place of the socket are one
place_of : (pin raised board s : ℕ) (t : Bool) → (leb 1 (pin + raised - 4) && leb (pin + raised - 4) board) ≡ t
    → cond t (Some (pin + raised - 4)) None ≡ Some s → (pin + raised - 4 ≡ s) × (1 ≤ s) × (s ≤ board)
place_of pin raised board s true e h =
    let q : pin + raised - 4 ≡ s = cc in
    let low = leb-true 1 (pin + raised - 4) (and_left (leb 1 (pin + raised - 4)) (leb (pin + raised - 4) board) e) in
    let high = leb-true (pin + raised - 4) board (and_right (leb 1 (pin + raised - 4)) (leb (pin + raised - 4) board) e) in
    (q, omega (arith, q, low), omega (arith, q, high))
place_of pin raised board s false e h = absurd (zero_one cc)

-- a place where a chip pin lies is a pin of the board
pub place_in : (d : Description) (p s : ℕ) → pin_socket d p ≡ Some s → PinOf d.board (socket s)
place_in d p s e = let a = place_of p (raised_of d.pin_offset) d.board.pins s _ refl e in (a.1, a.2)

pub same_place : (d : Description) (p q s : ℕ) → pin_socket d p ≡ Some s → pin_socket d q ≡ Some s → p ≡ q
same_place d p q s e h =
    let raised = raised_of d.pin_offset in
    let a = place_of p raised d.board.pins s _ refl e in
    let b = place_of q raised d.board.pins s _ refl h in
    omega (arith, a.0, a.1, b.0)

-- the board's pin behind a line: its place of the socket, or the X pin that a line off the socket takes
abbrev pub pin_behind : Option ℕ → ℕ → BoardPin
pin_behind (Some s) before = socket s
pin_behind None before = cond (eqb before 0) x1 x2

abbrev pub line_pin : Description → ℕ → BoardPin
line_pin d n = pin_behind (line_socket d n) (off_before d n)

pub x_in : (b : Board) (t : Bool) → PinOf b (cond t x1 x2)
x_in b true = tt
x_in b false = tt

pub line_pin_in : (d : Description) (n : ℕ) → PinOf d.board (line_pin d n)
unfolding line_socket
line_pin_in d n = at (line_socket d n) refl where
  at : (o : Option ℕ) → line_socket d n ≡ o → PinOf d.board (pin_behind o (off_before d n))
  at (Some s) e = place_in d (address_pin d n) s e
  at None e = x_in d.board (eqb (off_before d n) 0)

-- a line with a candidate has that of its pin, and is off the socket only as the first or second such line of a Single slot
pub record Behind (d : Description) (o : Option ℕ) (before g : ℕ) : Type 0 where
  pub candidate : CandidateOf (candidates_of d.board (pin_behind o before)) g
  pub few : is_off o ≡ true → before < 2
  pub alone : is_off o ≡ true → is_single d.set_type ≡ true

fly_behind : (b : Board) (before g : ℕ) (zero-th first : Bool) → eqb before 0 ≡ zero-th → eqb before 1 ≡ first
    → CandidateOf (cond zero-th (x_listed b 1) (cond first (x_listed b 2) (listed Absent NoValidLayout))).gpios g
    → CandidateOf (candidates_of b (cond zero-th x1 x2)) g × (before < 2)
fly_behind b before g true first e h c = (c, omega (arith, eqb-true before 0 e))
fly_behind b before g false true e h c = (c, omega (arith, eqb-true before 1 h))
fly_behind b before g false false e h c = absurd c

no_off : (o : Option ℕ) (s : ℕ) → o ≡ Some s → is_off o ≡ true → ⊥
no_off o s e h = let z : ◌≡◌ {A = Bool} false true = cc in zero_one cc

over_behind : (d : Description) (before g : ℕ) (t : Bool) → is_single d.set_type ≡ t
    → CandidateOf (cond t (fly_lead d.board before) (listed Absent NoValidLayout)).gpios g → Behind d None before g
over_behind d before g true e c =
    let f = fly_behind d.board before g (eqb before 0) (eqb before 1) refl refl c in
    record { candidate = f.0; few = λ h. f.1; alone = λ h. e }
over_behind d before g false e c = absurd c

behind : (d : Description) (n g : ℕ) (o : Option ℕ) → CandidateOf (at_socket d n o).gpios g → Behind d o (off_before d n) g
behind d n g (Some s) c = record { candidate = c; few = λ h. absurd (no_off (Some s) s refl h); alone = λ h. absurd (no_off (Some s) s refl h) }
behind d n g None c = over_behind d (off_before d n) g (is_single d.set_type) refl c

pub line-behind : (d : Description) (n g : ℕ) → CandidateOf (line_listed d n).gpios g → Behind d (line_socket d n) (off_before d n) g
unfolding line_listed
line-behind d n g c = behind d n g (line_socket d n) c

-- of two lines off the socket the later has more such lines before it
tally_more : (p : ℕ → Bool) (j k : ℕ) → j ≤ k → tally j p ≤ tally k p
unfolding tally
tally_more p j zero h = let e : j ≡ 0 = omega arith in rw e (omega arith)
tally_more p j (suc k) h =
    elim (eq-or-lt_of_le h) [
      | inl e ↦ rw e (omega arith)
      | inr l ↦ let m = tally_more p j k (omega arith) in omega arith
    ]

off_later : (d : Description) (j k : ℕ) → is_off (line_socket d j) ≡ true → j < k → off_before d j < off_before d k
unfolding tally
off_later d j k e l =
    let m = tally_more (λ n. is_off (line_socket d n)) (suc j) k l in
    let one : ◌≡◌ {A = ℕ} (cond (is_off (line_socket d j)) 1 0) 1 = rw e in
    omega (arith, m, one)

off_same : (d : Description) (j k : ℕ) → is_off (line_socket d j) ≡ true → is_off (line_socket d k) ≡ true → off_before d j ≡ off_before d k → j ≡ k
off_same d j k e h q = cases (ltb j k) (ltb k j) refl refl where
  cases : (a b : Bool) → ltb j k ≡ a → ltb k j ≡ b → j ≡ k
  cases true b p r = let x = off_later d j k e (ltb-true j k p) in absurd (omega arith)
  cases false true p r = let x = off_later d k j h (ltb-true k j r) in absurd (omega arith)
  cases false false p r = let x = ltb-false j k p in let y = ltb-false k j r in omega arith

-- X1 and X2 are two pins, and no place of the socket
which : BoardPin → ℕ
which (socket s) = 0
which x1 = 1
which x2 = 2

pub apart_x : (s : ℕ) (t : Bool) → socket s ≡ cond t x1 x2 → ⊥
unfolding which
apart_x s true e = zero_one (ap which e)
apart_x s false e = let z : ◌≡◌ {A = ℕ} 0 2 = ap which e in omega arith

at_place : BoardPin → ℕ
at_place (socket s) = s
at_place x1 = 0
at_place x2 = 0

pub same_x : (a b : ℕ) (t u : Bool) → a < 2 → b < 2 → eqb a 0 ≡ t → eqb b 0 ≡ u → cond t x1 x2 ≡ cond u x1 x2 → a ≡ b
unfolding which
same_x a b true true h l e f p = omega (arith, eqb-true a 0 e, eqb-true b 0 f)
same_x a b false false h l e f p = omega (arith, eqb-false a 0 e, eqb-false b 0 f)
same_x a b true false h l e f p = let z : ◌≡◌ {A = ℕ} 1 2 = ap which p in absurd (omega arith)
same_x a b false true h l e f p = let z : ◌≡◌ {A = ℕ} 2 1 = ap which p in absurd (omega arith)

own : (d : Description) (j k g h : ℕ) (o p : Option ℕ) → line_socket d j ≡ o → line_socket d k ≡ p → Behind d o (off_before d j) g → Behind d p (off_before d k) h
    → (address_pin d j ≡ address_pin d k → j ≡ k) → pin_behind o (off_before d j) ≡ pin_behind p (off_before d k) → j ≡ k
unfolding line_socket at_place
own d j k g h (Some s) (Some t) e f b c a q = let st : s ≡ t = ap at_place q in a (same_place d (address_pin d j) (address_pin d k) t (e ∙ ap Some st) f)
own d j k g h (Some s) None e f b c a q = absurd (apart_x s (eqb (off_before d k) 0) q)
own d j k g h None (Some t) e f b c a q = absurd (apart_x t (eqb (off_before d j) 0) (sym q))
own d j k g h None None e f b c a q =
    off_same d j k (ap is_off e) (ap is_off f)
    (same_x (off_before d j) (off_before d k) (eqb (off_before d j) 0) (eqb (off_before d k) 0) (b.few refl) (c.few refl) refl refl q)

pub lines-own : (d : Description) (j k g h : ℕ) → Behind d (line_socket d j) (off_before d j) g → Behind d (line_socket d k) (off_before d k) h
    → (address_pin d j ≡ address_pin d k → j ≡ k) → line_pin d j ≡ line_pin d k → j ≡ k
lines-own d j k g h b c a q = own d j k g h (line_socket d j) (line_socket d k) refl refl b c a q
