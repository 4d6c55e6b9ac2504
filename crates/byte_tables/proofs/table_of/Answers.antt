-- `table_of` meets its contract. The loop's invariant: the entries below 2 ^ k are in place. Assumes nothing.
use Prim.Native.Nat.{◌<◌}
use native.Mathlib.Omega.{arith}
use Rattle.byte_tables.proofs.Tables.{half-turn, half-done, one_up}
use Rattle.byte_tables.proofs.table_of.Goals as goal

pub loop-k-preserved : goal.loop-k-preserved
loop-k-preserved g c f joined says =
    let k = c.loop-k.k in
    let l : k < 8 = c.loop-k-test.true in
    half-turn f joined _ _ k _ _ (c.loop-k.invariant f joined says) l c.double.auto.out (one_up k 64 (omega arith))
    (says k _ l (rw (one_up k 32 (omega arith)) at c.of_bit.ensures)) c.double.ensures

pub returns : goal.returns
returns g c f joined says = half-done f _ _ (c.loop-k.invariant f joined says) c.loop-k-test.false
