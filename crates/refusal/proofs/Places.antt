-- Faults of document 01's rows, whose places have 48 bits, as the one number that a refused call returns has room for. Assumes nothing.
use Rattle.std.specs.Prelude.{Option, Some, None}
use Prim.Native.Nat.{ℕ, zero, suc, ◌+◌, ◌-◌, ◌*◌, ◌^◌, ◌≤◌, ◌<◌}
use mathlib.Core.Bool.{Bool, true, false}
use native.Mathlib.Omega.{arith}
use Rattle.refusal.specs.First.{or_else, fault_if, first_of}
use Rattle.refusal.specs.Refusal.{Code, refusal_code}
use Rattle.refusal.specs.declared.Refusal.{Refusal}

-- one of document 01's 25 rows or success, with a place of 48 bits; one inequality, so that one `omega arith` shows it of a row
abbrev pub FirstRows : Code → Type 0
FirstRows c = (c.number - 25) * 2 ^ 48 + c.place < 2 ^ 48

pub first-number : (c : Code) → FirstRows c → c.number ≤ 25
first-number c h = omega arith

pub first-place : (c : Code) → FirstRows c → c.place < 2 ^ 48
first-place c h = omega arith

abbrev pub FirstRow : Refusal → Type 0
FirstRow why = FirstRows (refusal_code why)

-- no fault, or one of these rows
abbrev pub Small : Option Refusal → Type 0
Small None = Unit
Small (Some why) = FirstRow why

pub small_or : (f g : Option Refusal) → Small f → Small g → Small (or_else f g)
small_or None g p q = q
small_or (Some why) g p q = p

pub small_if : (bad : Bool) (why : Refusal) → FirstRow why → Small (fault_if bad why)
small_if true why h = h
small_if false why h = tt

-- a test, and what is tested after it
pub small_test : (bad : Bool) (why : Refusal) (rest : Option Refusal) → FirstRow why → Small rest → Small (or_else (fault_if bad why) rest)
small_test true why rest h s = h
small_test false why rest h s = s

pub small-first : (n : ℕ) (f : ℕ → Option Refusal) → ((k : ℕ) → k < n → Small (f k)) → Small (first_of n f)
unfolding first_of
small-first zero f h = tt
small-first (suc n) f h = small_or (first_of n f) (f n) (small-first n f (λ k l. h k (omega arith))) (h n (omega arith))
