-- What a loop over the listed pins needs: one turn takes the next pin's candidates, gives it a GPIO, leaves the rest of the
-- choice number to the pins after it, and counts its bit. Assumes nothing.
use mathlib.Core.Path.{◌≡◌, sym, ◌∙◌, ap}
use mathlib.Core.Bool.{cond}
use mathlib.Core.List.{List, map}
use Prim.Native.Nat.{ℕ, ◌+◌, ◌≤◌, ◌<◌}
use native.Mathlib.Numerals.{add-one}
use lib.ListN.{length, take, get_or, get_or-eq_default, get_or-map}
use lib.Seq.{get_or-take}
use Rattle.gpio.specs.Candidates.{two}
use Rattle.gpio.specs.declared.candidates.Candidates.{Candidates}
use Rattle.gpio.specs.declared.candidates.Candidates.TheVariants.{Absent}
use Rattle.lists.proofs.Each.{tally-turn}
use Rattle.refusal.specs.declared.Refusal.TheVariants.{OutOfDomain}
use Rattle.listing.specs.Listing.{listed}
use Rattle.listing.specs.Design.Packed.{blank, listed_by}
use Rattle.listing.specs.Choice.{chosen, left_by, pin_at, rest_at, gpio_at, bit_of}
use Rattle.listing.specs.declared.Listed.{Listed}
use Rattle.listing.specs.declared.choice.Picked.{Picked}
use Rattle.listing.specs.declared.packed.Packed.{Packed}

-- a pin that is read and unpacked
pub pin_taken : (ps : List Packed) (n k : ℕ) (l : Listed) → k < n → l ≡ listed_by (get_or ps k blank) → l.gpios ≡ pin_at (take n (map listed_by ps)) k
pin_taken ps n k l h e =
    ap (λ (x : Listed). x.gpios)
    (e ∙ sym (get_or-map listed_by ps k blank) ∙ sym (get_or-take n (map listed_by ps) k (listed Absent OutOfDomain) h))

-- past the list a pin has no candidate
pub gpio-past : (ls : List Listed) (c k : ℕ) → length ls ≤ k → gpio_at ls c k ≡ 0
unfolding gpio_at
gpio-past ls c k h = ap (λ (x : Listed). chosen x.gpios (rest_at ls c k)) (get_or-eq_default ls (listed Absent OutOfDomain) h)

module _ (ls : List Listed) (c k r : ℕ) (g : Candidates) (p : Picked) (e : r ≡ rest_at ls c k) (h : g ≡ pin_at ls k)
    (i : p ≡ record { gpio = chosen g r; rest = left_by g r }) where
  pub gpio_taken : p.gpio ≡ gpio_at ls c k
  unfolding gpio_at
  gpio_taken = rw (i, h, e)

  pub rest_left : p.rest ≡ rest_at ls c (k + 1)
  unfolding rest_at
  rest_left = rw (i, h, e, add-one)

pub bit_served : (ls : List Listed) (k t n : ℕ) (g : Candidates) → t ≡ bit_of ls k → g ≡ pin_at ls k → n ≡ cond (two g) 1 0 → t + n ≡ bit_of ls (k + 1)
bit_served ls k t n g e h i = rw (i, h) (tally-turn (λ j. two (pin_at ls j)) k t e)
