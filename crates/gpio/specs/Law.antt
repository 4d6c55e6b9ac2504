-- What bounds and gap of a set say of each GPIO. Assumes nothing.
use Rattle.std.specs.Prelude.{ℕ, ◌+◌, ◌-◌, ◌≤◌, ◌<◌, ◌≡◌, true}
use Rattle.bits.specs.Bits.{bit}
use Rattle.gpio.specs.Set.{lowest, end, gapless, gap}

-- GPIO g is in the set s
abbrev pub In : ℕ → ℕ → Type 0
In s g = bit s g ≡ 1

pub record SetLaw (s : ℕ) : Type 0 where
  -- of a set that is not empty, the lowest is in it, and the highest, which is the one before the end
  pub lowest_in : (g : ℕ) → In s g → In s (lowest s)
  pub highest_in : (g : ℕ) → In s g → In s (end s - 1)
  -- no other is lower or higher
  pub lowest_least : (g : ℕ) → In s g → lowest s ≤ g
  pub highest-most : (g : ℕ) → In s g → g < end s
  -- 01 cs_data_layout 3: a GPIO is in the gap exactly if it is between the lowest and the highest and not in the set
  pub gap-between : (g : ℕ) → In (gap s) g → (lowest s < g) × (g + 1 < end s) × (In s g → ⊥)
  pub between-gap : (g : ℕ) → lowest s < g → g + 1 < end s → (In s g → ⊥) → In (gap s) g
  -- 01 cs_data_layout 3: GPIOs have no gap exactly if there is none between the lowest and the highest that is not one of them
  pub gapless-none : gapless s ≡ true → (g : ℕ) → In (gap s) g → ⊥
  pub none-gapless : ((g : ℕ) → In (gap s) g → ⊥) → gapless s ≡ true
