-- An index and its bits in another order. Assumes nothing.
use mathlib.Core.Path.{◌≡◌, sym, ◌∙◌, ap}
use mathlib.Core.Logic.{inl, inr}
use Prim.Native.Nat.{ℕ, zero, suc, ◌-◌, ◌/◌, ◌%◌, ◌^◌, ◌<◌, min, max}
use native.Mathlib.Nat.{pow-suc, div-one, lt_of_le_of_lt, le_of_suc-le-suc, eq-or-lt_of_le}
use native.Mathlib.Decide.{dec_lt}
use native.Mathlib.Omega.{arith}
use lib.Arith.{digits_mod}
use lib.Bits.{bit_and, or_lt, and_step, and_shr, and_le_r, or_add_and, and_le_l}
use lib.Pow.{pow_pos}
use Rattle.bits.specs.Bits.{bit, gather, scatter}
use Rattle.bits.proofs.Or.{bit_or_lem, bit-half}
use Rattle.bits.proofs.Bit.{bit_lt, bit-zero, bits-same}
use Rattle.bits.proofs.Back.{bit-gather, scatter-free, bit-scatter}
use Rattle.bits.proofs.Gathered.{gather_lt}
use Rattle.bits.proofs.Scattered.{scatter_lt}
use Rattle.index_order.specs.Design.Order.{Fits, mask_of, index_of}

-- the bits of numbers joined by and
digit_least : (x y : ℕ) → x < 2 → min x y < 2
digit_least x y h = omega arith

pub bit_and_lem : (a b g : ℕ) → bit (bit_and a b) g ≡ min (bit a g) (bit b g)
bit_and_lem a b g =
    rw and_shr
    (ap (λ (x : ℕ). x % 2) (and_step (a / 2 ^ g) (b / 2 ^ g))
    ∙ digits_mod (bit_and (a / 2 ^ g / 2) (b / 2 ^ g / 2)) (digit_least (a / 2 ^ g % 2) (b / 2 ^ g % 2) (omega arith)))

-- a number of ones
pub ones_bit : (n k : ℕ) → k < n → bit (2 ^ n - 1) k ≡ 1
ones_bit zero k l = absurd (omega arith)
ones_bit (suc n) zero l = let p = pow_pos n in rw (div-one, pow-suc) (omega arith)
ones_bit (suc n) (suc k) l =
    let half : (2 ^ suc n - 1) / 2 ≡ 2 ^ n - 1 = let p = pow_pos n in rw pow-suc (omega arith) in
    rw (bit-half (2 ^ suc n - 1) k, half) (ones_bit n k (omega arith))

-- a bit has a position, or has none
last : (n : ℕ) (p : ℕ → ℕ) (g : ℕ) → ((k : ℕ) → k < n → p k ≡ g → ⊥) → (p n ≡ g → ⊥) → (k : ℕ) → k < suc n → p k ≡ g → ⊥
last n p g f d k l e = elim (eq-or-lt_of_le (le_of_suc-le-suc l)) [ inl q ↦ d (sym (ap p q) ∙ e) | inr q ↦ f k q e ]

place : {C : Type 0} (n : ℕ) (p : ℕ → ℕ) (g : ℕ) → ((k : ℕ) → k < n → p k ≡ g → C) → (((k : ℕ) → k < n → p k ≡ g → ⊥) → C) → C
place zero p g has none = none (λ k l e. absurd (omega arith))
place (suc n) p g has none =
    place n p g (λ k l e. has k (omega arith) e) (λ f.
    elim (dec_lt (p n) g) [
      | yes l ↦ none (last n p g f (λ e. omega arith))
      | no l ↦ elim (dec_lt g (p n)) [ yes h ↦ none (last n p g f (λ e. omega arith)) | no h ↦ has n (omega arith) (omega arith) ]
    ])

module _ {n : ℕ} {p : ℕ → ℕ} {forced high pins : ℕ} (h : Fits n p forced high pins) where
  abbrev mask : ℕ
  mask = mask_of n p pins

  at_position : (v k : ℕ) → k < n → bit (scatter n p pins v) (p k) ≡ bit v k
  at_position v k l = bit-scatter n p pins v k l (h.apart.below k l) (λ j q. h.apart.own j k q l)

  -- a position is not forced
  free-position : (k : ℕ) → k < n → bit forced (p k) ≡ 0
  free-position k l =
      let e : min (bit mask (p k)) (bit forced (p k)) ≡ 0 = sym (bit_and_lem mask forced (p k)) ∙ ap (λ (x : ℕ). bit x (p k)) h.unforced ∙ bit-zero (p k) in
      let one : bit mask (p k) ≡ 1 = at_position (2 ^ n - 1) k l ∙ ones_bit n k l in
      let small = bit_lt forced (p k) in
      omega arith

  -- a bit that is high is forced
  high_bit : (g : ℕ) → bit high g ≡ min (bit high g) (bit forced g)
  high_bit g = sym (ap (λ (x : ℕ). bit x g) h.high_forced) ∙ bit_and_lem high forced g

  high-position : (k : ℕ) → k < n → bit high (p k) ≡ 0
  high-position k l = let e = high_bit (p k) in let f = free-position k l in omega arith

  forced_lt : forced < 2 ^ pins
  forced_lt =
      let both = or_add_and mask forced in
      let less = and_le_l mask forced in
      let all = h.all in
      let some = pow_pos pins in
      omega arith

  pub high_lt : high < 2 ^ pins
  high_lt = let e = h.high_forced in let l = and_le_r high forced in let f = forced_lt in omega arith

  pub index_lt : (e : ℕ) → index_of n p high pins e < 2 ^ pins
  index_lt e = or_lt pins high (scatter n p pins e) high_lt (scatter_lt n p pins e)

  -- its bits in that order
  pub index_back : (e : ℕ) → e < 2 ^ n → gather n p (index_of n p high pins e) ≡ e
  index_back e l =
      bits-same n (gather n p (index_of n p high pins e)) e (gather_lt n p (index_of n p high pins e)) l (λ k q.
      bit-gather n p (index_of n p high pins e) k q
      ∙ bit_or_lem high (scatter n p pins e) (p k)
      ∙ rw (high-position k q, at_position e k q) (omega arith))

  -- it has the forced bits
  forced_bit : (e g : ℕ) → min (max (bit high g) (bit (scatter n p pins e) g)) (bit forced g) ≡ bit high g
  forced_bit e g =
      let f = high_bit g in
      let s = bit_lt forced g in
      place n p g
      (λ k l q. let z : bit forced g ≡ 0 = rw q at (free-position k l) in omega arith)
      (λ none. let z = scatter-free n p pins e g none in omega arith)

  pub index_forced : (e : ℕ) → bit_and (index_of n p high pins e) forced ≡ high
  index_forced e =
      bits-same pins (bit_and (index_of n p high pins e) forced) high (lt_of_le_of_lt (and_le_r (index_of n p high pins e) forced) forced_lt) high_lt (λ g l.
      bit_and_lem (index_of n p high pins e) forced g ∙ rw bit_or_lem (forced_bit e g))

  -- and it is the one
  whole-bit : (i g : ℕ) → g < pins → bit_and i forced ≡ high → max (bit high g) (bit (scatter n p pins (gather n p i)) g) ≡ bit i g
  whole-bit i g l e =
      let same : bit high g ≡ min (bit i g) (bit forced g) = sym (ap (λ (x : ℕ). bit x g) e) ∙ bit_and_lem i forced g in
      let s = bit_lt i g in
      place n p g
      (λ k q r.
      let z : bit high g ≡ 0 = rw r at (high-position k q) in
      let there : bit (scatter n p pins (gather n p i)) g ≡ bit i g = rw r at (at_position (gather n p i) k q ∙ bit-gather n p i k q) in
      omega arith)
      (λ none.
      let z = scatter-free n p pins (gather n p i) g none in
      let y = scatter-free n p pins (2 ^ n - 1) g none in
      let all : max (bit mask g) (bit forced g) ≡ 1 = sym (bit_or_lem mask forced g) ∙ ap (λ (x : ℕ). bit x g) h.all ∙ ones_bit pins g l in
      omega arith)

  pub index_whole : (i : ℕ) → i < 2 ^ pins → bit_and i forced ≡ high → index_of n p high pins (gather n p i) ≡ i
  index_whole i l e =
      bits-same pins (index_of n p high pins (gather n p i)) i (index_lt (gather n p i)) l (λ g q. bit_or_lem high (scatter n p pins (gather n p i)) g ∙ whole-bit i g q e)
