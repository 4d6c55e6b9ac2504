-- `known_offset` meets its contract. The loop's invariant: the rows from k on give the whole table's answer. Assumes nothing.
use mathlib.Core.Path.{◌≡◌}
use Prim.Native.Nat.{◌≤◌}
use lib.ListN.{drop}
use Rattle.slot.specs.SlotContext.{offset_from, known_pairs}
use Rattle.slot.proofs.slot_context.known_offset.Given as goal

abbrev pub invariant-loop-k : goal.invariant-loop-k
invariant-loop-k l = (l.k ≤ 10) × (offset_from (drop l.k known_pairs) l.chip_pins l.board_pins ≡ offset_from known_pairs l.chip_pins l.board_pins)
