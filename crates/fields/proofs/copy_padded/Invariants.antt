-- `copy_padded` meets its contract. The invariant: the first k bytes are in place. Assumes nothing.
use Prim.Native.Nat.{◌+◌}
use lib.ListN.{length}
use Rattle.lists.proofs.Tab.{Filled}
use Rattle.fields.specs.Fields.{byte_at}
use Rattle.fields.proofs.copy_padded.Given as goal

abbrev pub invariant-loop-k : goal.invariant-loop-k
invariant-loop-k l = Filled (length l.initial.out) (λ j. byte_at l.b (l.p + j)) l.out l.k
