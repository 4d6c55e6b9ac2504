-- `lines_from` meets its contract. The invariant: the first k lines are in place. Assumes nothing.
use Prim.Native.Nat.{◌+◌, ◌*◌}
use Rattle.lists.proofs.Tab.{Filled}
use Rattle.cs_data_record.specs.CsDataRecord.{line_from}
use Rattle.cs_data_record.proofs.lines_from.Given as goal

abbrev pub invariant-loop-k : goal.invariant-loop-k
invariant-loop-k g l = Filled g.row.N (λ j. line_from l.b (l.p + 2 * j)) l.out l.k
