-- `pairs_in` meets its contract. The invariant: the first k pairs are looked at. Assumes nothing.
use mathlib.Core.Path.{◌≡◌}
use Prim.Native.Nat.{◌+◌, ◌*◌}
use Rattle.lists.specs.Each.{each}
use Rattle.fields.specs.Candidates.{pair_in}
use Rattle.description_record.proofs.shape.pairs_in.Given as goal

abbrev pub invariant-loop-k : goal.invariant-loop-k
invariant-loop-k l = l.ok ≡ each l.k (λ j. pair_in l.b (52 + 2 * j))
