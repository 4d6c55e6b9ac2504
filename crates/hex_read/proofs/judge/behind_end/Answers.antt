-- `behind_end` meets its contract. Assumes nothing.
use native.Mathlib.Omega.{arith}
use Rattle.hex_read.proofs.Verdicts.{text-behind, nothing-behind}
use Rattle.hex_read.proofs.judge.behind_end.Goals as goal

pub returns-then-rest-gt0 : goal.returns-then-rest-gt0
returns-then-rest-gt0 c = text-behind c.args.rest.now _ (omega arith)

pub returns : goal.returns
returns c = nothing-behind c.args.rest.now _ (omega arith)
