-- `chips_in` meets its contract. The invariant: the first k chips are looked at. Assumes nothing.
use mathlib.Core.Path.{◌≡◌}
use Prim.Native.Nat.{◌+◌, ◌*◌}
use Rattle.lists.specs.Each.{each}
use Rattle.description_record.specs.Record.{chip_zeros}
use Rattle.description_record.proofs.shape.chips_in.Given as goal

abbrev pub invariant-loop-k : goal.invariant-loop-k
invariant-loop-k l = l.ok ≡ each l.k (λ j. chip_zeros l.b (136 + 72 * j))
