-- Which bits of a choice number a pin's GPIO depends on: of a number in two parts, b above s bits and q below, a pin whose bit is
-- below s sees q alone, and any other sees b alone. Assumes nothing.
use mathlib.Core.Path.{◌≡◌, refl, sym, ◌∙◌, ap}
use mathlib.Core.Bool.{cond}
use mathlib.Core.List.{List}
use Prim.Native.Nat.{ℕ, zero, suc, ◌+◌, ◌-◌, ◌*◌, ◌/◌, ◌%◌, ◌^◌, ◌≤◌, ◌<◌}
use native.Mathlib.Nat.{add-zero, div-one}
use native.Mathlib.Omega.{arith}
use lib.Pow.{field, high, low, mod-mod-pow, shl-shr, shr-shr}
use Rattle.gpio.specs.Candidates.{two}
use Rattle.lists.specs.Each.{tally}
use Rattle.gpio.specs.declared.candidates.Candidates.{Candidates}
use Rattle.gpio.specs.declared.candidates.Candidates.TheVariants.{Absent, One, Two}
use Rattle.listing.specs.Choice.{chosen, left_by, pin_at, rest_at, gpio_at, bit_of}
use Rattle.listing.specs.declared.Listed.{Listed}

-- a two-candidate pin takes one bit off
leaves : (g : Candidates) (c t x : ℕ) → x ≡ c / 2 ^ t → left_by g x ≡ c / 2 ^ (t + cond (two g) 1 0)
leaves Absent c t x e = rw (add-zero, e)
leaves (One g) c t x e = rw (add-zero, e)
leaves (Two g h) c t x e = rw e (shr-shr c t 1)

-- what is left before a pin are the bits from its own on
pub rest_is : (ls : List Listed) (c k : ℕ) → rest_at ls c k ≡ c / 2 ^ bit_of ls k
unfolding rest_at tally
rest_is ls c zero = sym (div-one c)
rest_is ls c (suc k) = leaves (pin_at ls k) c (bit_of ls k) (rest_at ls c k) (rest_is ls c k)

-- a bit below s of b above s bits and q below
bit-low : (b s q t : ℕ) → q < 2 ^ s → t < s → (b * 2 ^ s + q) / 2 ^ t % 2 ≡ q / 2 ^ t % 2
bit-low b s q t h l =
    let n = b * 2 ^ s + q in
    let e : s ≡ (s - (1 + t)) + (1 + t) = omega arith in
    let same : n % 2 ^ (1 + t) ≡ q % 2 ^ (1 + t) =
    sym (mod-mod-pow n (s - (1 + t)) (1 + t)) ∙ ap (λ (x : ℕ). n % 2 ^ x % 2 ^ (1 + t)) (sym e) ∙ ap (λ (x : ℕ). x % 2 ^ (1 + t)) (low b s h) in
    sym (field n 1 t) ∙ ap (λ (x : ℕ). x / 2 ^ t) same ∙ field q 1 t

-- the bits from s on
bits-high : (b s q t : ℕ) → q < 2 ^ s → s ≤ t → (b * 2 ^ s + q) / 2 ^ t ≡ b * 2 ^ s / 2 ^ t
bits-high b s q t h l =
    let e : s + (t - s) ≡ t = omega arith in
    let same : (b * 2 ^ s + q) / 2 ^ s ≡ b * 2 ^ s / 2 ^ s = high b s h ∙ sym (shl-shr b s) in
    let n : (b * 2 ^ s + q) / 2 ^ (s + (t - s)) ≡ b * 2 ^ s / 2 ^ (s + (t - s)) =
    sym (shr-shr _ s (t - s)) ∙ ap (λ (x : ℕ). x / 2 ^ (t - s)) same ∙ shr-shr _ s (t - s) in
    rw e at n

chosen-same : (g : Candidates) (x y : ℕ) → x % 2 ≡ y % 2 → chosen g x ≡ chosen g y
chosen-same Absent x y e = refl
chosen-same (One g) x y e = refl
chosen-same (Two g h) x y e = rw e

module _ (ls : List Listed) (b s q k : ℕ) (h : q < 2 ^ s) where
  pub gpio-low : bit_of ls k < s → gpio_at ls (b * 2 ^ s + q) k ≡ gpio_at ls q k
  unfolding gpio_at
  gpio-low l =
      chosen-same (pin_at ls k) _ _ (rw (rest_is ls (b * 2 ^ s + q) k, rest_is ls q k) (bit-low b s q (bit_of ls k) h l))

  pub gpio-high : s ≤ bit_of ls k → gpio_at ls (b * 2 ^ s + q) k ≡ gpio_at ls (b * 2 ^ s) k
  unfolding gpio_at
  gpio-high l =
      ap (chosen (pin_at ls k)) (rw (rest_is ls (b * 2 ^ s + q) k, rest_is ls (b * 2 ^ s) k) (bits-high b s q (bit_of ls k) h l))
