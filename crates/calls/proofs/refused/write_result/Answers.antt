-- `write_result` meets its contract. Assumes nothing.
use native.Mathlib.Omega.{arith}
use Rattle.calls.specs.Packed.{packed_code}
use Rattle.calls.proofs.refused.write_result.Goals as goal

pub returns-in-Ok : goal.returns-in-Ok
unfolding packed_code
returns-in-Ok c = rw c.in-Ok.is (omega arith)
