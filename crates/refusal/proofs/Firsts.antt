-- What a loop that keeps the first fault needs of `first_of`; no fault of all is no fault of any, and the other way. Assumes nothing.
use Rattle.std.specs.Prelude.{Option, Some, None}
use Rattle.refusal.specs.declared.Refusal.{Refusal}
use mathlib.Core.Path.{◌≡◌, refl, ◌∙◌, ap}
use Prim.Native.Nat.{ℕ, zero, suc, ◌+◌, ◌<◌}
use native.Mathlib.Numerals.{add-one}
use native.Mathlib.Omega.{arith}
use native.Mathlib.Nat.{le_of_suc-le-suc, eq-or-lt_of_le}
use mathlib.Core.Logic.{inl, inr}
use Rattle.lists.proofs.Loops.{zero_one}
use Rattle.refusal.specs.First.{or_else, first_of}

pub first-none : (f : ℕ → Option Refusal) → None ≡ first_of 0 f
unfolding first_of
first-none f = refl

pub first-turn : (f : ℕ → Option Refusal) (k : ℕ) (before one after : Option Refusal) → before ≡ first_of k f → one ≡ f k → after ≡ or_else before one
    → after ≡ first_of (k + 1) f
unfolding first_of
first-turn f k before one after e h i = rw (i, h, e, add-one)

-- neither of two has a fault
pub or_none : (f g : Option Refusal) → or_else f g ≡ None → (f ≡ None) × (g ≡ None)
or_none (Some r) g e = absurd (zero_one cc)
or_none None g e = (refl, e)

-- no first fault of two: neither has one
pub or_left : (f g : Option Refusal) → or_else f g ≡ None → f ≡ None
or_left None g e = refl
or_left (Some r) g e = e

pub or_right : (f g : Option Refusal) → or_else f g ≡ None → g ≡ None
or_right None g e = e
or_right (Some r) g e = cc

pub first-all : (f : ℕ → Option Refusal) (n : ℕ) → first_of n f ≡ None → (k : ℕ) → k < n → f k ≡ None
unfolding first_of
first-all f zero e k h = absurd (omega arith)
first-all f (suc n) e k h =
    elim (eq-or-lt_of_le (le_of_suc-le-suc h)) [
      | inl q ↦ rw q (or_right (first_of n f) (f n) e)
      | inr l ↦ first-all f n (or_left (first_of n f) (f n) e) k l
    ]

pub none_of : (n : ℕ) (f : ℕ → Option Refusal) → ((k : ℕ) → k < n → f k ≡ None) → first_of n f ≡ None
unfolding first_of
none_of zero f h = refl
none_of (suc n) f h = rw (none_of n f (λ k l. h k (omega arith)), h n (omega arith))

-- from the head: the first one's fault, else the first of the others
pub or_assoc : (f g h : Option Refusal) → or_else (or_else f g) h ≡ or_else f (or_else g h)
or_assoc None g h = refl
or_assoc (Some r) g h = refl

pub or_end : (f : Option Refusal) → f ≡ or_else f None
or_end None = refl
or_end (Some r) = refl

pub first_head : (n : ℕ) (f : ℕ → Option Refusal) → first_of (suc n) f ≡ or_else (f 0) (first_of n (λ k. f (suc k)))
unfolding first_of
first_head zero f = or_end (f 0)
first_head (suc n) f =
    ap (λ (x : Option Refusal). or_else x (f (suc n))) (first_head n f) ∙ or_assoc (f 0) (first_of n (λ k. f (suc k))) (f (suc n))
