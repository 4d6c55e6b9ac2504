-- The first fault of several. Assumes nothing.
use Rattle.std.specs.Prelude.{ℕ, zero, suc, Bool, Option, Some, None, Result, Ok, Err}
use Rattle.std.specs.Bool.{then_some}
use Rattle.std.specs.Option.{option_or}
use Rattle.refusal.specs.declared.Refusal.{Refusal}

-- 01 addr_layout 6: of two faults the earlier is kept
abbrev pub or_else : Option Refusal → Option Refusal → Option Refusal
or_else = option_or

abbrev pub fault_if : Bool → Refusal → Option Refusal
fault_if = then_some

-- the fault of the lowest of n that has one
unfoldable pub first_of : ℕ → (ℕ → Option Refusal) → Option Refusal
first_of zero f = None
first_of (suc n) f = or_else (first_of n f) (f n)

-- the answer where nothing is left to test
abbrev pub answered : Option Refusal → Result (Unit {0}) Refusal
answered None = Ok tt
answered (Some r) = Err r
