-- The bits of numbers joined by exclusive or. Assumes nothing.
use mathlib.Core.Path.{◌≡◌, ◌∙◌, ap}
use Prim.Native.Nat.{ℕ, zero, suc, ◌/◌, ◌%◌, ◌^◌, ◌<◌}
use native.Mathlib.Omega.{arith}
use lib.Arith.{digits_mod}
use lib.Bits.{bit_xor, differ, xor_step, xor_shr, xor_lt}
use Rattle.bits.specs.Bits.{bit, gather}
use Rattle.bits.proofs.Bit.{bits-same}
use Rattle.bits.proofs.Gathered.{gather_lt}
use Rattle.bits.proofs.Back.{bit-gather}

-- of two digits a digit comes
differ_lt : (x y : ℕ) → x < 2 → y < 2 → differ x y < 2
differ_lt zero y h l = l
differ_lt (suc x) zero h l = h
differ_lt (suc x) (suc y) h l = differ_lt x y (omega arith) (omega arith)

pub xor_odd : (a b : ℕ) → bit_xor a b % 2 ≡ differ (a % 2) (b % 2)
xor_odd a b =
    ap (λ (x : ℕ). x % 2) (xor_step a b) ∙ digits_mod (bit_xor (a / 2) (b / 2)) (differ_lt (a % 2) (b % 2) (omega arith) (omega arith))

pub bit_xor_lem : (a b g : ℕ) → bit (bit_xor a b) g ≡ differ (bit a g) (bit b g)
bit_xor_lem a b g = rw xor_shr (xor_odd (a / 2 ^ g) (b / 2 ^ g))

-- where bits differ, those that are gathered do
pub gather_xor : (n : ℕ) (p : ℕ → ℕ) (x y : ℕ) → gather n p (bit_xor x y) ≡ bit_xor (gather n p x) (gather n p y)
gather_xor n p x y =
    bits-same n (gather n p (bit_xor x y)) (bit_xor (gather n p x) (gather n p y)) (gather_lt n p (bit_xor x y))
    (xor_lt n (gather n p x) (gather n p y) (gather_lt n p x) (gather_lt n p y)) (λ k l.
    rw (bit-gather n p (bit_xor x y) k l, bit_xor_lem x y (p k), bit_xor_lem (gather n p x) (gather n p y) k, bit-gather n p x k l, bit-gather n p y k l))
