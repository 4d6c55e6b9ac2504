-- `gather` meets its contract. The loop's invariant: the bits of the positions passed are in place. Assumes nothing.
use mathlib.Core.Path.{◌≡◌}
use Prim.Native.Nat.{ℕ, ◌+◌, ◌*◌, ◌%◌, ◌^◌, ◌<◌}
use native.Mathlib.Nat.{lt_of_lt_of_le}
use native.Mathlib.Omega.{arith}
use lib.Pow.{pow_mono}
use Rattle.bits.specs.Bits.{bit, gather}
use Rattle.bits.proofs.Bit.{bit_lt, bit_shl}
use Rattle.bits.proofs.Gathered.{gather_none, gather-turn, gather-done, gather_lt}
use Rattle.lists.proofs.Clauses.{with_bound}
use Rattle.bits.proofs.gather.Goals as goal

-- one turn, with the bit shifted in 32 bits
turn : (p : ℕ → ℕ) (i k at b g : ℕ) → k < 32 → at ≡ p k → b ≡ bit i at → g ≡ gather k p i → g + b * 2 ^ k % 2 ^ 32 ≡ gather (k + 1) p i
turn p i k at b g l e f h = rw (f, e, bit_shl (bit i (p k)) k (bit_lt i (p k)) (omega arith)) (gather-turn p i k g h)

fits : (p : ℕ → ℕ) (i k g : ℕ) → k < 32 → g ≡ gather (k + 1) p i → g < 2 ^ 32
fits p i k g l e = rw e (lt_of_lt_of_le (gather_lt (k + 1) p i) (pow_mono {j = 32} (omega arith)))

pub loop-k-init : goal.loop-k-init
loop-k-init c = (omega arith, gather_none _ _)

pub overflow_add-whole : goal.overflow_add-whole
overflow_add-whole c =
    let v = c.loop-k in
    record { fits = fits _ _ v.k _ (omega arith) (turn _ _ v.k _ _ _ (omega arith) c.entry-p.ensures c.bit_at.ensures.value v.invariant.1) }

pub loop-k-preserved : goal.loop-k-preserved
loop-k-preserved c =
    let v = c.loop-k in
    (omega arith, turn _ _ v.k _ _ _ (omega arith) c.entry-p.ensures c.bit_at.ensures.value v.invariant.1)

pub returns : goal.returns
returns c = with_bound (gather-done _ _ _ _ _ (omega arith) c.loop-k.invariant.1)
