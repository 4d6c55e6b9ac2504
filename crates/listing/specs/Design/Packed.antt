-- How the code stores the listed pins: in numbers, at the front of an array. No answer is defined by it: the definitions have lists.
-- Assumes nothing.
use Rattle.std.specs.Prelude.{ℕ, cond, List, map, eqb, take}
use Rattle.gpio.specs.declared.candidates.Candidates.{Candidates}
use Rattle.gpio.specs.declared.candidates.Candidates.TheVariants.{Absent, One, Two}
use Rattle.refusal.specs.declared.Refusal.{Refusal}
use Rattle.refusal.specs.declared.Refusal.TheVariants.{OutOfDomain, NoSelectLine, UnmappedPin, MissingXPin, NoValidLayout}
use Rattle.listing.specs.Listing.{listed}
use Rattle.listing.specs.declared.Listed.{Listed}
use Rattle.listing.specs.declared.Listing.{Listing}
use Rattle.listing.specs.declared.packed.Packed.{Packed}

-- the candidates of a packed pin: how many, the first, the second
abbrev pub gpios_by : ℕ → ℕ → ℕ → Candidates
gpios_by n g h = cond (eqb n 0) Absent (cond (eqb n 1) (One g) (Two g h))

-- the refusal that a packed pin has, by its number and place
abbrev pub fault_by : ℕ → ℕ → Refusal
fault_by n place =
    cond (eqb n 3) (UnmappedPin place)
    (cond (eqb n 4) (MissingXPin place) (cond (eqb n 2) NoSelectLine (cond (eqb n 9) NoValidLayout OutOfDomain)))

-- the listed pin that is packed
abbrev pub listed_by : Packed → Listed
listed_by p = listed (gpios_by p.candidates p.first p.second) (fault_by p.fault p.place)

-- past the pins that are packed
abbrev pub blank : Packed
blank = record { candidates = 0; first = 0; second = 0; fault = 0; place = 0 }

-- 01 Shape 2: the list that a listing holds is its array up to the count
abbrev pub list_of : Listing → List Listed
list_of l = take l.count (map listed_by l.pins)
