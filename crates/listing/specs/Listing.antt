-- The pins that a search lists. Assumes nothing.
use Rattle.std.specs.Prelude.{ℕ, ◌+◌, ◌-◌, Bool, cond, List, [], ◌∷◌, leb, eqb, get_or, Option, Some, None}
use Rattle.gpio.specs.Candidates.{two}
use Rattle.gpio.specs.declared.candidates.Candidates.{Candidates}
use Rattle.gpio.specs.declared.candidates.Candidates.TheVariants.{Absent, One, Two}
use Rattle.slot.specs.Description.{no_pin}
use Rattle.slot.specs.declared.description.Board.{Board}
use Rattle.refusal.specs.First.{or_else}
use Rattle.refusal.specs.declared.Refusal.{Refusal}
use Rattle.refusal.specs.declared.Refusal.TheVariants.{MissingXPin}
use Rattle.listing.specs.declared.Listed.{Listed}

-- a pin with its candidates, and the refusal that answers where it has none
abbrev pub listed : Candidates → Refusal → Listed
listed c r = record { gpios = c; fault = r }

-- the candidates of a socket pin, counted from 1
abbrev pub candidates_at : Board → ℕ → Candidates
candidates_at b s = cond (leb 1 s) (get_or b.socket (s - 1) no_pin).gpios Absent

-- 01 Number 4: a listed X pin has no candidates; the place is 1 for X1 and 2 for X2
abbrev pub x_listed : Board → ℕ → Listed
x_listed b x = cond (eqb x 1) (listed b.x1 (MissingXPin 1)) (listed b.x2 (MissingXPin 2))

-- X1 where a search needs it, and X2 where it needs both
abbrev pub x_pins : Board → Bool → Bool → List Listed
x_pins b one both = cond one (x_listed b 1 ∷ cond both (x_listed b 2 ∷ []) []) []

-- 01 Domain 8: a listed pin counts if it has two candidates; one that has none, for whatever cause, does not
abbrev pub two_listed : Listed → Bool
two_listed l = two l.gpios

abbrev pub count : Bool → ℕ
count b = cond b 1 0

-- 01 Domain 8: how many two-candidate pins a list has
unfoldable pub twos : List Listed → ℕ
twos [] = 0
twos (l ∷ ls) = count (two_listed l) + twos ls

abbrev pub fault_of : Candidates → Refusal → Option Refusal
fault_of Absent r = Some r
fault_of (One g) r = None
fault_of (Two g h) r = None

abbrev pub keep_fault : Option Refusal → Listed → Option Refusal
keep_fault f l = or_else f (fault_of l.gpios l.fault)

unfoldable pub fault_from : Option Refusal → List Listed → Option Refusal
fault_from f [] = f
fault_from f (l ∷ ls) = fault_from (keep_fault f l) ls

-- 01 addr_layout 6: the fault of the first pin in the list that has no candidate
abbrev pub first_fault : List Listed → Option Refusal
first_fault ls = fault_from None ls
