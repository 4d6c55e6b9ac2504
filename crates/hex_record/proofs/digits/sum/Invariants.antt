-- `sum` meets its contract. The loop's invariant: s is the sum of the bytes passed, modulo 256. Assumes nothing.
use Rattle.std.proofs.Common.{◌≡◌, ◌%◌, ◌≤◌}
use Rattle.lists.specs.Each.{total}
use Rattle.hex_record.specs.Record.{record_byte}
use Rattle.hex_record.proofs.digits.sum.Given as goal

abbrev pub invariant-loop-k : goal.invariant-loop-k
invariant-loop-k l = (l.k ≤ l.n) × (l.s ≡ total l.k (record_byte l.line) % 256)
