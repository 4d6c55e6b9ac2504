-- `qualifier_set` meets its contract. The loop's invariant: `s` has the GPIOs of the qualifiers passed, and those still to come are GPIOs. Assumes nothing.
use mathlib.Core.Path.{◌≡◌}
use Prim.Native.Nat.{ℕ, ◌≤◌, ◌<◌}
use Rattle.gpio.specs.Set.{set_of}
use Rattle.domain.specs.Domain.{qualifier_gpio}
use Rattle.cs_data_layout.proofs.sets.qualifier_set.Given as goal

abbrev pub invariant-loop-k : goal.invariant-loop-k
invariant-loop-k l =
    (l.k ≤ l.count) × (l.count ≤ 255) × ((j : ℕ) → j < l.count → qualifier_gpio l.qualifiers l.gpios j ≤ 47) × (l.s ≡ set_of l.k (λ j. qualifier_gpio l.qualifiers l.gpios j))
