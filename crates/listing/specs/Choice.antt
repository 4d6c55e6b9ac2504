-- What a choice number makes of a list of pins. Assumes nothing.
use Rattle.std.specs.Prelude.{ℕ, zero, suc, ◌/◌, ◌%◌, ◌≡◌, true, cond, List, ◌⊎◌, eqb, get_or}
use Rattle.lists.specs.Each.{tally}
use Rattle.gpio.specs.Candidates.{two, candidates_in}
use Rattle.gpio.specs.declared.candidates.Candidates.{Candidates}
use Rattle.gpio.specs.declared.candidates.Candidates.TheVariants.{Absent, One, Two}
use Rattle.refusal.specs.declared.Refusal.TheVariants.{OutOfDomain}
use Rattle.listing.specs.declared.Listed.{Listed}
use Rattle.listing.specs.Listing.{listed}

-- the lowest bit of what is left of the number
abbrev pub low_bit : ℕ → ℕ
low_bit rest = rest % 2

-- 01 addr_layout 7: a two-candidate pin goes by the lowest bit of what is left of the number, 0 for its first candidate and 1 for
-- its second
abbrev pub chosen : Candidates → ℕ → ℕ
chosen Absent rest = 0
chosen (One g) rest = g
chosen (Two g h) rest = cond (eqb (low_bit rest) 0) g h

-- 01 addr_layout 7: a two-candidate pin takes one bit off, and leaves the rest to the pins after it; any other pin takes none
abbrev pub left_by : Candidates → ℕ → ℕ
left_by Absent rest = rest
left_by (One g) rest = rest
left_by (Two g h) rest = rest / 2

-- a GPIO is one of a pin's candidates
abbrev pub CandidateOf : Candidates → ℕ → Type 0
CandidateOf Absent g = ⊥
CandidateOf (One a) g = g ≡ a
CandidateOf (Two a b) g = (g ≡ a) ⊎ (g ≡ b)

-- the candidates of the k-th pin
abbrev pub pin_at : List Listed → ℕ → Candidates
pin_at ls k = (get_or ls k (listed Absent OutOfDomain)).gpios

-- each candidate is a GPIO of the RP2350
abbrev pub GpiosIn : List Listed → Type 0
GpiosIn ls = (k : ℕ) → candidates_in (pin_at ls k) ≡ true

-- what is left of the number before the k-th pin
unfoldable pub rest_at : List Listed → ℕ → ℕ → ℕ
rest_at ls c zero = c
rest_at ls c (suc k) = left_by (pin_at ls k) (rest_at ls c k)

-- the k-th pin's GPIO
unfoldable pub gpio_at : List Listed → ℕ → ℕ → ℕ
gpio_at ls c k = chosen (pin_at ls k) (rest_at ls c k)

-- 01 addr_layout 7: the bit that serves the k-th pin has as many bits below it as there are two-candidate pins before the pin
abbrev pub bit_of : List Listed → ℕ → ℕ
bit_of ls k = tally k (λ i. two (pin_at ls i))
