-- `placed` meets its contract. Assumes nothing.
use native.Mathlib.Omega.{arith}
use borrow.Author.Tests.{lt-ltb, le-ltb}
use Rattle.bits.proofs.Bit.{bit_shl}
use Rattle.bits.proofs.placed.Goals as goal

pub returns-then-p-m : goal.returns-then-p-m
returns-then-p-m c =
    let a = c.args in
    rw (lt-ltb a.p a.m c.if-p-m.true, bit_shl a.b a.p (omega arith) (omega arith))
