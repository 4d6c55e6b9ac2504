-- `all_digits` meets its contract. The loop's invariant: ok says whether those passed are digits. Assumes nothing.
use Rattle.std.proofs.Common.{◌≡◌, ◌+◌, ◌-◌, ◌≤◌, length, get_or}
use Rattle.lists.specs.Each.{each}
use Rattle.hex_record.specs.Digits.{is_digit}
use Rattle.hex_record.proofs.digits.all_digits.Given as goal

abbrev pub invariant-loop-k : goal.invariant-loop-k
invariant-loop-k l = (l.k - 1 ≤ length l.line - 1) × (l.ok ≡ each (l.k - 1) (λ j. is_digit (get_or l.line (j + 1) 0)))
