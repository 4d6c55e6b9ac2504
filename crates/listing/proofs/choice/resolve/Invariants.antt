-- `resolve` meets its contract. The loop's invariant: the GPIOs of the pins passed are in place, and `rest` is what they left of the choice. Assumes nothing.
use mathlib.Core.Path.{◌≡◌}
use Prim.Native.Nat.{◌≤◌}
use lib.ListN.{length}
use Rattle.lists.proofs.Tab.{Begun}
use Rattle.listing.specs.Design.Packed.{list_of}
use Rattle.listing.specs.Choice.{rest_at, gpio_at}
use Rattle.listing.proofs.choice.resolve.Given as goal

abbrev pub invariant-loop-k : goal.invariant-loop-k
invariant-loop-k l =
    (l.k ≤ l.count) × (l.count ≤ 30) × (l.count ≡ l.l.count) × (length l.l.pins ≡ 30) × Begun 30 (λ j. gpio_at (list_of l.l) l.choice j) 0 l.out l.k
    × (l.rest ≡ rest_at (list_of l.l) l.choice l.k)
