-- `table_of` meets its contract. The loop's invariant: the entries below 2 ^ k are in place. Assumes nothing.
use mathlib.Core.Path.{◌≡◌}
use Prim.Native.Nat.{ℕ, ◌^◌, ◌<◌}
use Rattle.byte_tables.specs.Design.Doubled.{Joined}
use Rattle.byte_tables.proofs.Tables.{Half}
use Rattle.byte_tables.proofs.table_of.Given as goal

abbrev pub invariant-loop-k : goal.invariant-loop-k
invariant-loop-k g l =
    (f : ℕ → ℕ) → Joined f → ((k r : ℕ) → k < 8 → goal.F-post g l.of_bit (2 ^ k) r → r ≡ f (2 ^ k)) → Half f l.out l.k
