-- `part_span` meets its contract. The loop's invariant: `rest` is what the pins passed left of the choice, `bit` the next pin's bit, and `s` spans those that count. Assumes nothing.
use mathlib.Core.Path.{◌≡◌}
use Prim.Native.Nat.{◌≤◌}
use lib.ListN.{length}
use Rattle.listing.specs.Design.Packed.{list_of}
use Rattle.listing.specs.Choice.{rest_at, bit_of}
use Rattle.addr_choices.specs.Design.Parts.{span_part_at}
use Rattle.addr_choices.proofs.part_span.Given as goal

abbrev pub invariant-loop-k : goal.invariant-loop-k
invariant-loop-k l =
    (l.k ≤ l.count) × (l.count ≤ 30) × (l.count ≡ l.l.count) × (l.bit ≤ l.k) × (length l.l.pins ≡ 30) × (l.rest ≡ rest_at (list_of l.l) l.choice l.k)
    × (l.bit ≡ bit_of (list_of l.l) l.k) × (l.s ≡ span_part_at (list_of l.l) (record { in_range = l.in_range; lines = l.lines; fixed = l.initial.s }) l.low l.split l.choice l.k)
