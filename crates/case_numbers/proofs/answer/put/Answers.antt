-- A number that fits, and one that does not. Assumes nothing.
use Rattle.std.proofs.Common.{arith}
use Rattle.case_numbers.proofs.Turns.{put_fits, put_full}
use Rattle.case_numbers.proofs.answer.put.Goals as goal

pub returns-then-at-ours : goal.returns-then-at-ours
returns-then-at-ours c = put_fits _ _ _ (omega arith)

pub returns : goal.returns
returns c = put_full _ _ _ (omega arith)
