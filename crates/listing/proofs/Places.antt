-- The first fault of a list is one of document 01's rows, with a place of 48 bits, if each pin's fault is; lists put together of such pins. Assumes nothing.
use Rattle.std.specs.Prelude.{Option, None}
use Prim.Native.Nat.{ℕ, zero, suc, ◌<◌}
use mathlib.Core.Bool.{Bool, true, false, cond}
use mathlib.Core.List.{List, [], ◌∷◌, ◌++◌}
use native.Mathlib.Omega.{arith}
use Rattle.lists.specs.Tab.{tab}
use Rattle.gpio.specs.declared.candidates.Candidates.{Candidates}
use Rattle.gpio.specs.declared.candidates.Candidates.TheVariants.{Absent, One, Two}
use Rattle.slot.specs.declared.description.Board.{Board}
use Rattle.refusal.specs.declared.Refusal.{Refusal}
use Rattle.refusal.proofs.Places.{FirstRow, Small, small_or}
use Rattle.listing.specs.Listing.{x_pins, fault_of, keep_fault, fault_from, first_fault}
use Rattle.listing.specs.declared.Listed.{Listed}

-- the fault of each pin is such a row, whether the pin has candidates or not
abbrev pub Placed : List Listed → Type 0
Placed [] = Unit
Placed (l ∷ ls) = FirstRow l.fault × Placed ls

pub placed-append : (a b : List Listed) → Placed a → Placed b → Placed (a ++ b)
placed-append [] b p q = q
placed-append (l ∷ a) b p q = (p.0, placed-append a b p.1 q)

pub placed_one : (l : Listed) → FirstRow l.fault → Placed (l ∷ [])
placed_one l h = (h, tt)

pub placed-tab : (n : ℕ) (f : ℕ → Listed) → ((k : ℕ) → k < n → FirstRow (f k).fault) → Placed (tab n f)
unfolding tab
placed-tab zero f h = tt
placed-tab (suc n) f h = placed-append (tab n f) (f n ∷ []) (placed-tab n f (λ k l. h k (omega arith))) (placed_one (f n) (h n (omega arith)))

pub placed_if : (t : Bool) (a b : List Listed) → Placed a → Placed b → Placed (cond t a b)
placed_if true a b p q = p
placed_if false a b p q = q

pub placed_x : (b : Board) (one both : Bool) → Placed (x_pins b one both)
placed_x b false both = tt
placed_x b true false = (omega arith, tt)
placed_x b true true = (omega arith, (omega arith, tt))

small_of : (c : Candidates) (why : Refusal) → FirstRow why → Small (fault_of c why)
small_of Absent why h = h
small_of (One g) why h = tt
small_of (Two g k) why h = tt

small_from : (f : Option Refusal) (ls : List Listed) → Small f → Placed ls → Small (fault_from f ls)
unfolding fault_from
small_from f [] s p = s
small_from f (l ∷ ls) s p =
    small_from (keep_fault f l) ls (small_or f (fault_of l.gpios l.fault) s (small_of l.gpios l.fault p.0)) p.1

pub small-fault : (ls : List Listed) → Placed ls → Small (first_fault ls)
small-fault ls p = small_from None ls tt p
