-- `lines` meets its contract. The invariant: the first k lines are in place. Assumes nothing.
use Prim.Native.Nat.{◌+◌, ◌*◌}
use Rattle.lists.proofs.Tab.{Filled}
use Rattle.description_record.specs.Record.{control_line_at}
use Rattle.description_record.proofs.parts.lines.Given as goal

abbrev pub invariant-loop-k : goal.invariant-loop-k
invariant-loop-k l = Filled 8 (λ j. control_line_at l.b (l.p + 48 + 3 * j)) l.out l.k
