-- `pad_row` meets its contract. The loop's invariant: the entries passed are written. Assumes nothing.
use mathlib.Core.Path.{◌≡◌}
use Prim.Native.Nat.{◌≤◌}
use lib.ListN.{length}
use Rattle.word_rows.specs.Design.Wrote.{Wrote}
use Rattle.table_rows.proofs.pad_row.Given as goal

abbrev pub invariant-loop-q : goal.invariant-loop-q
invariant-loop-q l = (l.q ≤ l.count) × (length l.table ≡ length l.initial.table) × Wrote l.w (λ k. l.entry) l.first l.q l.initial.table l.table
