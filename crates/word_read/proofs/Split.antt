-- An order's bits: an address, what picks, and a turn. Assumes nothing.
use mathlib.Core.Path.{◌≡◌, sym, ◌∙◌, ap}
use Prim.Native.Nat.{ℕ, ◌+◌, ◌-◌, ◌*◌, ◌/◌, ◌%◌, ◌^◌, ◌≤◌, ◌<◌}
use native.Mathlib.Nat.{add-mul, mul_assoc, mod-lt}
use native.Mathlib.Omega.{arith}
use lib.Arith.{digits_lt}
use lib.Bits.{bit_or}
use lib.Pow.{pow-add, pow_pos, shr-shr, shr_lt, split, high, low}
use Rattle.bits.specs.Bits.{bit, gather, scatter}
use Rattle.bits.proofs.Or.{or_assoc}
use Rattle.bits.proofs.Bit.{bit-mod, bits-same}
use Rattle.bits.proofs.Back.{bit-gather}
use Rattle.bits.proofs.Gathered.{gather_lt}
use Rattle.bits.proofs.Scattered.{scatter_split}
use Rattle.index_order.specs.Design.Order.{Ordered, at, index_of}
use Rattle.entry_words.specs.declared.Map.{Map}

-- the bits of an index at an order's positions tell its address and what it picks
module _ {map picks order : Map} (o : Ordered map picks order) (i : ℕ) where
  abbrev e : ℕ
  e = gather order.lines (at order) i

  pub address-bits : gather map.lines (at map) i ≡ e % 2 ^ map.lines
  address-bits =
      bits-same map.lines (gather map.lines (at map) i) (e % 2 ^ map.lines) (gather_lt map.lines (at map) i) (mod-lt e (pow_pos map.lines)) (λ k l.
      bit-gather map.lines (at map) i k l
      ∙ sym (bit-mod e map.lines k l ∙ bit-gather order.lines (at order) i k (omega (arith, o.lines)) ∙ ap (bit i) (o.address k l)))

  pub picked-bits : gather picks.lines (at picks) i ≡ e / 2 ^ map.lines % 2 ^ picks.lines
  picked-bits =
      bits-same picks.lines (gather picks.lines (at picks) i) (e / 2 ^ map.lines % 2 ^ picks.lines) (gather_lt picks.lines (at picks) i) (mod-lt (e / 2 ^ map.lines) (pow_pos picks.lines)) (λ k l.
      bit-gather picks.lines (at picks) i k l
      ∙ sym (bit-mod (e / 2 ^ map.lines) picks.lines k l
      ∙ ap (λ (x : ℕ). x % 2) (shr-shr e map.lines k)
      ∙ bit-gather order.lines (at order) i (map.lines + k) (omega (arith, o.lines))
      ∙ ap (bit i) (o.picked k l)))

-- a turn's order
module _ (A B : ℕ) where
  pub turn_parts : (c b a : ℕ) → c * 2 ^ (B + A) + b * 2 ^ A + a ≡ (c * 2 ^ B + b) * 2 ^ A + a
  turn_parts c b a = rw (pow-add 2 B A, add-mul (c * 2 ^ B) b (2 ^ A), mul_assoc c (2 ^ B) (2 ^ A))

  pub turn-address : (c b a : ℕ) → a < 2 ^ A → (c * 2 ^ (B + A) + b * 2 ^ A + a) % 2 ^ A ≡ a
  turn-address c b a l = rw (turn_parts c b a) (low (c * 2 ^ B + b) A l)

  pub turn-picked : (c b a : ℕ) → a < 2 ^ A → b < 2 ^ B → (c * 2 ^ (B + A) + b * 2 ^ A + a) / 2 ^ A % 2 ^ B ≡ b
  turn-picked c b a l h = rw (turn_parts c b a, high (c * 2 ^ B + b) A l) (low c B h)

  pub turn_lt : (n c b a : ℕ) → B + A ≤ n → c < 2 ^ (n - (B + A)) → b < 2 ^ B → a < 2 ^ A → c * 2 ^ (B + A) + b * 2 ^ A + a < 2 ^ n
  turn_lt n c b a f l h k =
      let whole : n - (B + A) + (B + A) ≡ n = omega arith in
      let rest : b * 2 ^ A + a < 2 ^ (B + A) = rw (pow-add 2 B A) (digits_lt h k) in
      let all : c * 2 ^ (B + A) + (b * 2 ^ A + a) < 2 ^ (n - (B + A)) * 2 ^ (B + A) = digits_lt l rest in
      let same : 2 ^ (n - (B + A)) * 2 ^ (B + A) ≡ 2 ^ n = sym (pow-add 2 (n - (B + A)) (B + A)) ∙ ap (λ (x : ℕ). 2 ^ x) whole in
      omega (arith, rw same at all)

  -- each order is one of a turn
  pub turn_of : (x : ℕ) → x / 2 ^ A / 2 ^ B * 2 ^ (B + A) + x / 2 ^ A % 2 ^ B * 2 ^ A + x % 2 ^ A ≡ x
  turn_of x = turn_parts (x / 2 ^ A / 2 ^ B) (x / 2 ^ A % 2 ^ B) (x % 2 ^ A) ∙ rw (split (x / 2 ^ A) B, split x A)

  pub turn-count : (n x : ℕ) → B + A ≤ n → x < 2 ^ n → x / 2 ^ A / 2 ^ B < 2 ^ (n - (B + A))
  turn-count n x f l =
      let whole : n ≡ n - (B + A) + B + A = omega arith in
      let all : x < 2 ^ (n - (B + A) + B + A) = rw whole at l in
      shr_lt (n - (B + A)) B (shr_lt (n - (B + A) + B) A all)

  -- a row of a turn, and the low bits of one of its words
  module _ (n : ℕ) (p : ℕ → ℕ) (m : ℕ) where
    scatter-low : (h f q : ℕ) → f % 256 ≡ 0 → q < 256 → f + q < 2 ^ A
        → scatter n p m (h * 2 ^ A + (f + q)) ≡ bit_or (scatter n p m (h * 2 ^ A + f)) (scatter n p m q)
    scatter-low h f q z l k =
        let row : f / 256 * 2 ^ 8 ≡ f = omega arith in
        let low_part : scatter n p m (f + q) ≡ bit_or (scatter n p m f) (scatter n p m q) = rw row at (scatter_split n p m (f / 256) 8 q l) in
        scatter_split n p m h A (f + q) k
        ∙ ap (bit_or (scatter n p m (h * 2 ^ A))) low_part
        ∙ sym (or_assoc (scatter n p m (h * 2 ^ A)) (scatter n p m f) (scatter n p m q))
        ∙ ap (λ (x : ℕ). bit_or x (scatter n p m q)) (sym (scatter_split n p m h A f (omega arith)))

    pub turn-joins : (hi c b f q : ℕ) → f % 256 ≡ 0 → q < 256 → f + q < 2 ^ A
        → index_of n p hi m (c * 2 ^ (B + A) + b * 2 ^ A + (f + q)) ≡ bit_or (index_of n p hi m (c * 2 ^ (B + A) + b * 2 ^ A + f)) (scatter n p m q)
    turn-joins hi c b f q z l k =
        ap (λ (x : ℕ). bit_or hi (scatter n p m x)) (turn_parts c b (f + q))
        ∙ ap (bit_or hi) (scatter-low (c * 2 ^ B + b) f q z l k)
        ∙ sym (or_assoc hi (scatter n p m ((c * 2 ^ B + b) * 2 ^ A + f)) (scatter n p m q))
        ∙ ap (λ (x : ℕ). bit_or (bit_or hi (scatter n p m x)) (scatter n p m q)) (sym (turn_parts c b f))
