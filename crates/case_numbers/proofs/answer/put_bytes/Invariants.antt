-- The first k bytes are written. Assumes nothing.
use Rattle.std.proofs.Common.{length, ◌-◌, ◌≡◌, ◌≤◌}
use Rattle.case_numbers.specs.Answer.{written, put_all}
use Rattle.case_numbers.proofs.answer.put_bytes.Given as goal

abbrev pub invariant-loop-k : goal.invariant-loop-k
invariant-loop-k l = written l.ours l.end ≡ put_all l.k (written l.fn.ours l.at) l.bytes
