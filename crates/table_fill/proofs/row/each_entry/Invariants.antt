-- `each_entry` meets its contract. The loop's invariant: what the next index says, and the entries passed. Assumes nothing.
use mathlib.Core.Path.{◌≡◌}
use Prim.Native.Nat.{◌≤◌}
use lib.ListN.{length}
use Rattle.table_fill.specs.Design.Rows.{RowIn}
use Rattle.table_fill.specs.declared.wiring.Wiring.{Wiring}
use Rattle.table_fill.proofs.Rows.{Reached}
use Rattle.table_fill.proofs.row.each_entry.Given as goal

abbrev pub invariant-loop-q : goal.invariant-loop-q
invariant-loop-q l =
    (l.q ≤ l.row.count)
    × (length l.table ≡ length l.initial.table)
    × ((w : Wiring) → RowIn w l.bytes l.from.sources l.from.pad l.row l.moves l.picking l.lows l.highs l.images l.initial.table → Reached l.order w l.bytes l.from.sources l.from.pad l.row l.images l.initial.table l.table l.address l.picks l.q)
