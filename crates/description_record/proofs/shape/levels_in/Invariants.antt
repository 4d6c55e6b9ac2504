-- `levels_in` meets its contract. The invariant: the first k lines are looked at. Assumes nothing.
use mathlib.Core.Path.{◌≡◌}
use Prim.Native.Nat.{◌+◌, ◌*◌}
use Rattle.lists.specs.Each.{each}
use lib.Dec.{eqb}
use Rattle.fields.specs.Fields.{byte_at}
use Rattle.description_record.proofs.shape.levels_in.Given as goal

abbrev pub invariant-loop-k : goal.invariant-loop-k
invariant-loop-k l = l.ok ≡ each l.k (λ j. eqb (byte_at l.b (l.p + 50 + 3 * j)) 0)
