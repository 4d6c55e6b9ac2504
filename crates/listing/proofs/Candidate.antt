-- A pin that has candidates takes one of them. Assumes nothing.
use mathlib.Core.Path.{◌≡◌, refl}
use mathlib.Core.Bool.{Bool, true, false, cond}
use mathlib.Core.List.{List}
use mathlib.Core.Logic.{◌⊎◌, inl, inr}
use Prim.Native.Nat.{ℕ}
use lib.Dec.{eqb}
use Rattle.gpio.specs.declared.candidates.Candidates.{Candidates}
use Rattle.gpio.specs.declared.candidates.Candidates.TheVariants.{Absent, One, Two}
use Rattle.listing.specs.Choice.{low_bit, chosen, CandidateOf, pin_at, rest_at, gpio_at}
use Rattle.listing.specs.declared.Listed.{Listed}

chosen-two : (a b : ℕ) (t : Bool) → (cond t a b ≡ a) ⊎ (cond t a b ≡ b)
chosen-two a b true = inl refl
chosen-two a b false = inr refl

candidate_of : (c : Candidates) (rest : ℕ) → (c ≡ Absent → ⊥) → CandidateOf c (chosen c rest)
candidate_of Absent rest n = n refl
candidate_of (One g) rest n = refl
candidate_of (Two g h) rest n = chosen-two g h (eqb (low_bit rest) 0)

pub candidate-at : (ls : List Listed) (c k : ℕ) → (pin_at ls k ≡ Absent → ⊥) → CandidateOf (pin_at ls k) (gpio_at ls c k)
unfolding gpio_at
candidate-at ls c k n = candidate_of (pin_at ls k) (rest_at ls c k) n
