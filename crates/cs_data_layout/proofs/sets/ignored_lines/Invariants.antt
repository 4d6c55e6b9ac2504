-- `ignored_lines` meets its contract. The loop's invariant: `s` has the candidates of the lines passed. Assumes nothing.
use mathlib.Core.Path.{◌≡◌}
use mathlib.Core.Bool.{true}
use Prim.Native.Nat.{◌≤◌}
use Rattle.domain.specs.Domain.{description_in}
use Rattle.cs_data_layout.specs.Choices.{ignored_at}
use Rattle.cs_data_layout.proofs.sets.ignored_lines.Given as goal

abbrev pub invariant-loop-k : goal.invariant-loop-k
invariant-loop-k l = (l.k ≤ l.count) × (l.count ≡ l.d.multi.num_ignored) × (description_in l.d ≡ true) × (l.s ≡ ignored_at l.d l.k)
