-- `sum` meets its contract. The loop's invariant: s is the sum of the bytes passed, modulo 256. Assumes nothing.
use Rattle.std.proofs.Common.{◌≡◌, ◌%◌, get_or}
use Rattle.lists.specs.Each.{total}
use Rattle.hex_base.proofs.sum.Given as goal

abbrev pub invariant-loop-byte : goal.invariant-loop-byte
invariant-loop-byte l = l.s ≡ total l.byte-index (λ k. get_or l.bytes k 0) % 256
