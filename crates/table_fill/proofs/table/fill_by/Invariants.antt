-- `fill_by` meets its contract. The loop's invariant: what the row's first index says, and the entries before it. Assumes nothing.
use mathlib.Core.Path.{◌≡◌}
use Prim.Native.Nat.{◌*◌, min}
use lib.ListN.{length}
use Rattle.table_fill.specs.Design.Entries.{part_of, table_by}
use Rattle.table_fill.proofs.table.fill_by.Given as goal

abbrev pub invariant-loop-k : goal.invariant-loop-k
invariant-loop-k l =
    (length l.table ≡ length l.initial.table)
    × (l.address ≡ (part_of l.w (256 * l.k)).address)
    × (l.picked ≡ (part_of l.w (256 * l.k)).picks)
    × (l.table ≡ table_by l.order l.w l.from.sources l.from.pad l.images (min (256 * l.k) l.entries) l.initial.table)
