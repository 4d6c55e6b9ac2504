-- `bit_at` meets its contract. Assumes nothing.
use mathlib.Core.Path.{sym}
use native.Mathlib.Omega.{arith}
use Rattle.bits.proofs.Bit.{bit_past}
use Rattle.bits.proofs.bit_at.Goals as goal

pub returns : goal.returns
returns c = let a = c.args in record { value = sym (bit_past a.i 32 a.p (omega arith) c.if-p-lt32.false); upper_bound = omega arith }
