-- How many index bits move over a table: two a step, less the ones of the index that is reached. Assumes nothing.
use mathlib.Core.Path.{◌≡◌, refl, ◌∙◌, ap}
use mathlib.Core.Bool.{Bool, not, cond}
use Prim.Native.Nat.{ℕ, zero, suc, ◌+◌, ◌-◌, ◌*◌, ◌/◌, ◌%◌, ◌^◌, ◌<◌}
use native.Mathlib.Nat.{div-one, pow-suc}
use native.Mathlib.Numerals.{add-one}
use native.Mathlib.Decide.{dec_lt}
use native.Mathlib.Omega.{arith}
use lib.Count.{ones, ones_step, ones-ones, ones-le}
use lib.Dec.{eqb}
use lib.Pow.{pow_pos, ones_lt}
use borrow.Author.Tests.{eq-eqb}
use Rattle.lists.specs.Each.{tally, total}
use Rattle.bits.specs.Bits.{bit}
use Rattle.bits.proofs.Or.{bit-half}
use Rattle.running_address.specs.Kept.{bits_moved}
use Rattle.running_address.specs.Law.{MovesLaw}

-- a count with its first entry taken apart
tally-first : (n : ℕ) (f : ℕ → Bool) → tally (suc n) f ≡ cond (f 0) 1 0 + tally n (λ k. f (suc k))
unfolding tally
tally-first zero f = omega arith
tally-first (suc n) f = omega (arith, tally-first n f)

-- in how many of the low p bits two numbers differ
abbrev unlike : ℕ → ℕ → ℕ → ℕ
unlike p x y = tally p (λ b. not (eqb (bit x b) (bit y b)))

unlike_self : (p x : ℕ) → unlike p x x ≡ 0
unfolding tally
unlike_self zero x = refl
unlike_self (suc p) x = rw (unlike_self p x, eq-eqb (bit x p) (bit x p) refl)

-- in the lowest, and in those of the halves
unlike_low : (p x y : ℕ) → unlike (suc p) x y ≡ cond (not (eqb (x % 2) (y % 2))) 1 0 + unlike p (x / 2) (y / 2)
unlike_low p x y = tally-first p (λ b. not (eqb (bit x b) (bit y b))) ∙ simp (div-one, bit-half)

-- the bits that a step moves, and the ones after it, are two more than the ones before it
step : (p i : ℕ) → i + 1 < 2 ^ p → bits_moved p i + ones (i + 1) ≡ 2 + ones i
step zero i h = absurd (omega arith)
step (suc p) i h =
    elim (dec_lt (i % 2) 1) [
      | yes l ↦
          let z : i % 2 ≡ 0 = omega arith in
          let o : (i + 1) % 2 ≡ 1 = omega arith in
          let half : (i + 1) / 2 ≡ i / 2 = omega arith in
          let moved = unlike_low p i (i + 1) in
          omega (arith, rw (z, o, half, unlike_self p (i / 2)) at moved, ones_step i, rw half at (ones_step (i + 1)))
      | no l ↦
          let o : i % 2 ≡ 1 = omega arith in
          let z : (i + 1) % 2 ≡ 0 = omega arith in
          let half : (i + 1) / 2 ≡ i / 2 + 1 = omega arith in
          let moved = unlike_low p i (i + 1) in
          let room : i / 2 + 1 < 2 ^ p = omega (arith, pow-suc 2 p) in
          omega (arith, rw (o, z, half) at moved, ones_step i, rw half at (ones_step (i + 1)), step p (i / 2) room)
    ]

-- over n steps
steps : (p n : ℕ) → n < 2 ^ p → total n (bits_moved p) + ones n ≡ 2 * n
unfolding total
steps p zero h = omega (arith, ones-le 0 0 (omega arith))
steps p (suc n) h = omega (arith, steps p n (omega arith), step p n (omega arith), ap ones (add-one n))

in_all : (p : ℕ) → total (2 ^ p - 1) (bits_moved p) + 2 + p ≡ 2 * 2 ^ p
in_all p = omega (arith, steps p (2 ^ p - 1) (ones_lt p), ones-ones p, pow_pos p)

pub moves_law : (p : ℕ) → MovesLaw p
moves_law p = record { in_all = in_all p; few = omega (arith, in_all p) }
