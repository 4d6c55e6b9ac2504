-- `part` meets its contract. The loop's invariant: `rest` is what the pins passed left of the choice, `bit` the next pin's bit, and `s` has the GPIOs of those that count. Assumes nothing.
use mathlib.Core.Path.{◌≡◌}
use Prim.Native.Nat.{◌≤◌}
use lib.ListN.{length}
use Rattle.listing.specs.Design.Packed.{list_of}
use Rattle.listing.specs.Choice.{rest_at, bit_of}
use Rattle.cs_choices.specs.Design.Parts.{set_part_at, PinsIn}
use Rattle.cs_choices.proofs.choices.part.Given as goal

abbrev pub invariant-loop-k : goal.invariant-loop-k
invariant-loop-k l =
    (l.k ≤ l.to) × PinsIn l.l l.to × (l.bit ≤ l.k) × (length l.l.pins ≡ 30) × (l.rest ≡ rest_at (list_of l.l) l.choice l.k)
    × (l.bit ≡ bit_of (list_of l.l) l.k) × (l.s ≡ set_part_at (list_of l.l) l.from l.low l.split l.choice l.k)
