-- The first k bytes are in place. Assumes nothing.
use Rattle.std.proofs.Common.{◌-◌, ◌+◌}
use Rattle.lists.proofs.Tab.{Filled}
use Rattle.case_numbers.specs.Case.{byte_at}
use Rattle.case_numbers.proofs.case.record_bytes.Given as goal

abbrev pub invariant-loop-k : goal.invariant-loop-k
invariant-loop-k l = Filled 424 (λ j. byte_at l.case (l.at + j)) l.out l.k
