-- `excess_set` meets its contract. The loop's invariant: `s` has the GPIOs of the lines passed. Assumes nothing.
use mathlib.Core.Path.{◌≡◌}
use mathlib.Core.Bool.{true}
use Prim.Native.Nat.{◌≤◌}
use Rattle.gpio.specs.Set.{set_of}
use Rattle.addr_layout.specs.Layout.{layout_in}
use Rattle.cs_data_layout.specs.Choices.{excess_gpio}
use Rattle.cs_data_layout.proofs.sets.excess_set.Given as goal

abbrev pub invariant-loop-k : goal.invariant-loop-k
invariant-loop-k l = (l.k ≤ l.count) × (l.count ≡ l.h.num_excess) × (l.count ≤ 24) × (layout_in l.h ≡ true) × (l.s ≡ set_of l.k (λ j. excess_gpio l.h j))
