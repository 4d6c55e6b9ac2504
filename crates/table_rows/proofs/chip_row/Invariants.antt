-- `chip_row` meets its contract. The loop's invariant: the entries passed are written, and the address is the next index's. Assumes nothing.
use mathlib.Core.Path.{◌≡◌}
use Prim.Native.Nat.{◌+◌, ◌≤◌}
use lib.ListN.{length, get_or}
use Rattle.bits.specs.Bits.{index_address}
use Rattle.word_rows.specs.Design.Wrote.{Wrote}
use Rattle.table_rows.specs.Design.Rows.{chip_entry}
use Rattle.table_rows.proofs.chip_row.Given as goal

abbrev pub invariant-loop-q : goal.invariant-loop-q
invariant-loop-q l =
    (l.q ≤ l.row.count) × (length l.table ≡ length l.initial.table) × (l.address ≡ index_address l.n (λ k. get_or l.lines k 0) (l.row.first + l.q))
    × Wrote l.w (chip_entry l.order l.w l.row l.n (λ k. get_or l.lines k 0) l.lows l.highs l.images) l.row.first l.q l.initial.table l.table
