-- `pair_bytes` meets its contract. The invariant: the bytes of the first k lines are in place. Assumes nothing.
use Prim.Native.Nat.{◌*◌}
use Rattle.lists.proofs.Tab.{Filled}
use Rattle.cs_data_record.proofs.Pairs.{byte_of}
use Rattle.cs_data_record.proofs.pair_bytes.Given as goal

abbrev pub invariant-loop-k : goal.invariant-loop-k
invariant-loop-k g l = Filled (g.row.N) (byte_of l.lines) l.out (2 * l.k)
