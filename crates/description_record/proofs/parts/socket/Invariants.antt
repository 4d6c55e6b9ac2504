-- `socket` meets its contract. The invariant: the first k pins are in place. Assumes nothing.
use Prim.Native.Nat.{◌+◌, ◌*◌}
use Rattle.lists.proofs.Tab.{Filled}
use Rattle.fields.specs.Candidates.{pair_at}
use Rattle.description_record.proofs.parts.socket.Given as goal

abbrev pub invariant-loop-k : goal.invariant-loop-k
invariant-loop-k l = Filled 40 (λ j. record { gpios = pair_at l.b (52 + 2 * j) }) l.out l.k
