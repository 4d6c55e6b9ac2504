-- The bits of numbers joined by or. Assumes nothing.
use mathlib.Core.Path.{◌≡◌, refl, sym, ◌∙◌, ap}
use Prim.Native.Nat.{ℕ, suc, ◌/◌, ◌%◌, ◌^◌, ◌<◌, max}
use native.Mathlib.Numerals.{one-add}
use native.Mathlib.Omega.{arith}
use lib.Arith.{bin_ind, digits_mod}
use lib.Bits.{bit_or, or_step, or_shr, or_comm}
use lib.Pow.{shr-shr}
use Rattle.bits.specs.Bits.{bit}

-- the lowest digit of a union, and the others
digit-most : (x y : ℕ) → x < 2 → y < 2 → max x y < 2
digit-most x y h l = omega arith

digit_assoc : (x y z : ℕ) → max (max x y) z ≡ max x (max y z)
digit_assoc x y z = omega arith

pub or_odd : (a b : ℕ) → bit_or a b % 2 ≡ max (a % 2) (b % 2)
or_odd a b = ap (λ (x : ℕ). x % 2) (or_step a b) ∙ digits_mod (bit_or (a / 2) (b / 2)) (digit-most (a % 2) (b % 2) (omega arith) (omega arith))

pub or_assoc : (a b c : ℕ) → bit_or (bit_or a b) c ≡ bit_or a (bit_or b c)
or_assoc =
    bin_ind (λ (n : ℕ). (b c : ℕ) → bit_or (bit_or n b) c ≡ bit_or n (bit_or b c)) (λ b c. refl) (λ n ih b c.
    rw (or_step (bit_or n b) c, or_step n (bit_or b c), or_shr n b 1, or_shr b c 1, or_odd n b, or_odd b c, digit_assoc, ih (b / 2) (c / 2)))

pub or_swap : (a b c : ℕ) → bit_or (bit_or a b) c ≡ bit_or (bit_or a c) b
or_swap a b c = or_assoc a b c ∙ ap (bit_or a) (or_comm b c) ∙ sym (or_assoc a c b)

-- the bits from 1 on are those of the half
pub bit-half : (s g : ℕ) → bit s (suc g) ≡ bit (s / 2) g
bit-half s g = rw (← one-add g, ← shr-shr s 1 g)

pub bit_or_lem : (a b g : ℕ) → bit (bit_or a b) g ≡ max (bit a g) (bit b g)
bit_or_lem a b g = rw or_shr (or_odd (a / 2 ^ g) (b / 2 ^ g))
