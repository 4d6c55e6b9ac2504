-- `bare_end` meets its contract. Assumes nothing.
use native.Mathlib.Omega.{arith}
use Rattle.hex_read.proofs.Splits.{end_return, end_plain, end-first}
use Rattle.hex_read.proofs.lines.bare_end.Goals as goal

pub returns-then-text-at-eq13 : goal.returns-then-text-at-eq13
returns-then-text-at-eq13 c = record { value = end_return _ _ c.if-at-gt0.true c.if-text-at-eq13.true; upper_bound = omega arith }

pub returns-else-text-at-eq13 : goal.returns-else-text-at-eq13
returns-else-text-at-eq13 c = record { value = end_plain _ _ c.if-at-gt0.true c.if-text-at-eq13.false; upper_bound = omega arith }

pub returns-else-at-gt0 : goal.returns-else-at-gt0
returns-else-at-gt0 c = record { value = end-first _ _ c.if-at-gt0.false; upper_bound = omega arith }
