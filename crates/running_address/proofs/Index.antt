-- From an index to the next: which bits move, and how far up. Assumes nothing.
use mathlib.Core.Path.{◌≡◌, ◌∙◌, ap}
use Prim.Native.Nat.{ℕ, zero, suc, ◌+◌, ◌-◌, ◌/◌, ◌%◌, ◌^◌, ◌*◌, ◌<◌}
use native.Mathlib.Nat.{pow-suc}
use native.Mathlib.Decide.{dec_lt}
use native.Mathlib.Omega.{arith}
use lib.Bits.{bit_xor, xor_step, xor_zero_r}
use lib.Count.{count_trailing_zeros}
use lib.Pow.{pow_pos}

-- ones at all positions up to t + 1 are a one below those up to t
low_ones : (t : ℕ) → 2 ^ (suc t + 1) - 1 ≡ (2 ^ (t + 1) - 1) * 2 + 1
low_ones t =
    let next : suc t + 1 ≡ suc (t + 1) = omega arith in
    let twice : 2 ^ (suc t + 1) ≡ 2 ^ (t + 1) * 2 = ap (λ (x : ℕ). 2 ^ x) next ∙ pow-suc 2 (t + 1) in
    omega (arith, pow_pos (t + 1))

-- the lowest bit is clear: it alone moves
clear : (i : ℕ) → i % 2 ≡ 0 → bit_xor i 1 ≡ i + 1
clear i e = xor_step i 1 ∙ rw (e, xor_zero_r) (omega arith)

-- it is set: it moves, and the bits above as from the half
carry : (i m : ℕ) → i % 2 ≡ 1 → bit_xor (i / 2) m ≡ i / 2 + 1 → bit_xor i (m * 2 + 1) ≡ i + 1
carry i m e h =
    let half : (m * 2 + 1) / 2 ≡ m = omega arith in
    let low : (m * 2 + 1) % 2 ≡ 1 = omega arith in
    xor_step i (m * 2 + 1) ∙ rw (half, low, h, e) (omega arith)

-- the bits that move are those up to the lowest one of the next index
pub rise : (k i : ℕ) → i + 1 < 2 ^ k → bit_xor i (2 ^ (count_trailing_zeros k (i + 1) + 1) - 1) ≡ i + 1
unfolding count_trailing_zeros
rise zero i h = absurd (omega arith)
rise (suc k) i h =
    elim (dec_lt (i % 2) 1) [
      | yes l ↦ let odd : (i + 1) % 2 ≡ 1 = omega arith in rw odd (clear i (omega arith))
      | no l ↦
          let even : (i + 1) % 2 ≡ 0 = omega arith in
          let half : (i + 1) / 2 ≡ i / 2 + 1 = omega arith in
          let room : i / 2 + 1 < 2 ^ k = omega (arith, pow-suc 2 k) in
          rw (even, half, low_ones) (carry i _ (omega arith) (rise k (i / 2) room))
    ]

-- a number that is not 0 has its lowest one within its width
pub lowest_in : (k x : ℕ) → 0 < x → x < 2 ^ k → count_trailing_zeros k x < k
unfolding count_trailing_zeros
lowest_in zero x h l = absurd (omega arith)
lowest_in (suc k) x h l =
    elim (dec_lt (x % 2) 1) [
      | yes q ↦ let even : x % 2 ≡ 0 = omega arith in rw even (omega (arith, lowest_in k (x / 2) (omega arith) (omega (arith, pow-suc 2 k))))
      | no q ↦ let odd : x % 2 ≡ 1 = omega arith in rw odd (omega arith)
    ]
