-- The first fault of a list; demand 2's choices of candidates, and the numbers that they go by. Assumes nothing.
use Rattle.refusal.specs.declared.Refusal.{Refusal}
use Rattle.std.specs.Prelude.{ℕ, ◌/◌, ◌%◌, ◌^◌, ◌<◌, ◌≡◌, cond, List, eqb, length, get_or, Option}
use Rattle.gpio.specs.declared.candidates.Candidates.TheVariants.{Absent, Two}
use Rattle.refusal.specs.First.{first_of}
use Rattle.refusal.specs.declared.Refusal.TheVariants.{OutOfDomain}
use Rattle.listing.specs.Choice.{CandidateOf, pin_at, gpio_at, bit_of}
use Rattle.listing.specs.Listing.{listed, twos, fault_of, first_fault}
use Rattle.listing.specs.declared.Listed.{Listed}

-- the fault of the k-th pin, where it has no candidate
abbrev pub fault_at : List Listed → ℕ → Option Refusal
fault_at ls k = fault_of (pin_at ls k) (get_or ls k (listed Absent OutOfDomain)).fault

-- 01 addr_layout 6: the first fault of a list is that of its lowest pin that has no candidate
abbrev pub FirstFaultLaw : List Listed → Type 0
FirstFaultLaw ls = first_fault ls ≡ first_of (length ls) (fault_at ls)

-- 00 Demand 2: a choice of candidates takes for each listed pin one of its candidates
abbrev pub Assigned : List Listed → (ℕ → ℕ) → Type 0
Assigned ls pick = (k : ℕ) → k < length ls → CandidateOf (pin_at ls k) (pick k)

-- number c takes these GPIOs
abbrev pub Makes : List Listed → ℕ → (ℕ → ℕ) → Type 0
Makes ls c pick = (k : ℕ) → k < length ls → gpio_at ls c k ≡ pick k

-- 00 Demand 2: the choices of candidates are the numbers below 2^(two-candidate pins), one each
pub record Numbers (ls : List Listed) : Type 0 where
  -- each number makes a choice of candidates
  pub makes_one : (c : ℕ) → Assigned ls (λ k. gpio_at ls c k)
  -- each choice of candidates is made by a number
  pub made : (pick : ℕ → ℕ) → Assigned ls pick → (c : ℕ) × (c < 2 ^ twos ls) × Makes ls c pick
  -- and by no other
  pub once : (b c : ℕ) → b < 2 ^ twos ls → c < 2 ^ twos ls → Makes ls b (λ k. gpio_at ls c k) → b ≡ c
  -- 01 addr_layout 7: a two-candidate pin takes its first candidate if the bit that serves it is 0, and its second if it is 1
  pub bit : (c k g h : ℕ) → pin_at ls k ≡ Two g h → gpio_at ls c k ≡ cond (eqb (c / 2 ^ bit_of ls k % 2) 0) g h
