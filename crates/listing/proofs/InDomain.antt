-- In a description of the domain the candidates of a chip's pin and of X1 and X2 are GPIOs of the RP2350. Lists of such pins, and
-- the GPIO that a choice takes from one. Assumes nothing.
use Rattle.std.specs.Prelude.{Some, None}
use mathlib.Core.Path.{◌≡◌, refl}
use mathlib.Core.Bool.{Bool, true, false, ◌&&◌, ◌||◌, cond}
use mathlib.Core.List.{List, [], ◌∷◌, ◌++◌}
use Prim.Native.Nat.{ℕ, zero, suc, ◌+◌, ◌-◌, ◌≤◌}
use native.Mathlib.Omega.{arith}
use lib.Dec.{leb, eqb}
use borrow.Author.Tests.{leb-true, le-leb, eqb-true}
use Rattle.gpio.specs.Candidates.{gpio_in, candidates_in}
use Rattle.lists.specs.Tab.{tab}
use Rattle.gpio.specs.declared.candidates.Candidates.{Candidates}
use Rattle.gpio.specs.declared.candidates.Candidates.TheVariants.{Absent, One, Two}
use Rattle.lists.proofs.Bools.{and_left, and_right}
use Rattle.slot.specs.SlotContext.{board_pins_in, raised_of}
use Rattle.slot.specs.declared.description.Board.{Board}
use Rattle.slot.specs.declared.description.Description.{Description}
use Rattle.domain.specs.Domain.{description_in}
use Rattle.domain.proofs.Bounds.{BoardIn, description_in_lem}
use Rattle.listing.specs.Choice.{low_bit, chosen, pin_at, rest_at, gpio_at, GpiosIn}
use Rattle.listing.specs.Lines.{socket_candidates, pin_candidates}
use Rattle.listing.specs.Listing.{candidates_at, x_listed, x_pins}
use Rattle.listing.specs.declared.Listed.{Listed}

-- lists put together
pub none_in : GpiosIn []
none_in k = refl

pub cons_in : (l : Listed) (ls : List Listed) → candidates_in l.gpios ≡ true → GpiosIn ls → GpiosIn (l ∷ ls)
cons_in l ls h hs zero = h
cons_in l ls h hs (suc k) = hs k

pub one_in : (l : Listed) → candidates_in l.gpios ≡ true → GpiosIn (l ∷ [])
one_in l h = cons_in l [] h none_in

pub append_in : (a b : List Listed) → GpiosIn a → GpiosIn b → GpiosIn (a ++ b)
append_in [] b ha hb = hb
append_in (l ∷ a) b ha hb = cons_in l (a ++ b) (ha 0) (append_in a b (λ k. ha (suc k)) hb)

pub tab_in : (f : ℕ → Listed) → ((k : ℕ) → candidates_in (f k).gpios ≡ true) → (n : ℕ) → GpiosIn (tab n f)
unfolding tab
tab_in f h zero = none_in
tab_in f h (suc n) = append_in (tab n f) (f n ∷ []) (tab_in f h n) (one_in (f n) (h n))

-- at most 40 by the counts before, or for being the count m
or_count : (n m : ℕ) (t : Bool) → m ≤ 40 → (t ≡ true → n ≤ 40) → t || eqb n m ≡ true → n ≤ 40
or_count n m true l f e = f refl
or_count n m false l f e = omega (arith, eqb-true n m e)

-- no socket has more than 40 pins
pub pins-fit : (n : ℕ) → board_pins_in n ≡ true → n ≤ 40
pins-fit n =
    or_count n 40 _ (omega arith) (or_count n 32 _ (omega arith) (or_count n 28 (eqb n 24) (omega arith) (λ e. omega (arith, eqb-true n 24 e))))

module _ (b : Board) (e : BoardIn b) where
  pub x_pins_in : (one both : Bool) → GpiosIn (x_pins b one both)
  x_pins_in false both = none_in
  x_pins_in true false = one_in (x_listed b 1) e.x1
  x_pins_in true true = cons_in (x_listed b 1) (x_listed b 2 ∷ []) e.x1 (one_in (x_listed b 2) e.x2)

  -- a place of the socket, counted from 1
  pub place_in : (s : ℕ) → s ≤ 40 → candidates_in (candidates_at b s) ≡ true
  place_in zero l = refl
  place_in (suc s) l = rw (le-leb 1 (suc s) (omega arith)) (e.socket (suc s - 1) (omega arith))

  -- on the socket by the test t, or off it
  on_in : (s : ℕ) (t : Bool) → leb 1 s && leb s b.pins ≡ t → candidates_in (socket_candidates b (cond t (Some s) None)) ≡ true
  on_in s false h = refl
  on_in s true h =
      let pins = pins-fit b.pins e.pins in
      place_in s (omega (arith, leb-true s b.pins (and_right (leb 1 s) _ h)))

pub pin_in : (d : Description) → description_in d ≡ true → (pin : ℕ) → candidates_in (pin_candidates d pin) ≡ true
unfolding pin_candidates
pin_in d e pin = on_in d.board (description_in_lem d e).board (pin + raised_of d.pin_offset - 4) _ refl

-- the GPIO that a choice takes
cond_le : (t : Bool) (g h : ℕ) → g ≤ 47 → h ≤ 47 → cond t g h ≤ 47
cond_le true g h p q = p
cond_le false g h p q = q

chosen_in : (c : Candidates) (rest : ℕ) → candidates_in c ≡ true → chosen c rest ≤ 47
chosen_in Absent rest e = omega arith
chosen_in (One g) rest e = leb-true g 47 e
chosen_in (Two g h) rest e =
    let both = and_left (gpio_in g && gpio_in h) _ e in
    cond_le (eqb (low_bit rest) 0) g h (leb-true g 47 (and_left _ _ both)) (leb-true h 47 (and_right (gpio_in g) _ both))

pub gpio_in_lem : (ls : List Listed) → GpiosIn ls → (c k : ℕ) → gpio_at ls c k ≤ 47
unfolding gpio_at
gpio_in_lem ls h c k = chosen_in (pin_at ls k) (rest_at ls c k) (h k)
