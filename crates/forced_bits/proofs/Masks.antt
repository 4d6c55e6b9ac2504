-- The bits that overrides force, by masks: an index has them where its bits under the one mask are the other. Assumes nothing.
use mathlib.Core.Path.{◌≡◌, refl, sym, ◌∙◌, ap}
use mathlib.Core.Bool.{Bool, true, false, cond, ◌&&◌, ◌||◌}
use Prim.Native.Nat.{ℕ, zero, suc, ◌+◌, ◌*◌, ◌/◌, ◌%◌, ◌^◌, ◌<◌}
use native.Mathlib.Nat.{lt_of_le_of_lt, mod-lt}
use native.Mathlib.Omega.{arith}
use lib.Bits.{bit_and, and_block, and_mask, and_le_r, and_zero_r}
use lib.Pow.{split, pow_pos}
use lib.Dec.{eqb}
use borrow.Author.Tests.{eqb-true, eqb-false, eq-eqb, ne_eqb}
use Rattle.lists.specs.Each.{each}
use Rattle.bits.specs.Bits.{bit}
use Rattle.bits.proofs.Bit.{bit_lt}
use Rattle.stored_slot.specs.Stored.{names, addr_base, stored_pins, free}
use Rattle.forced_bits.specs.Design.Forced.{mask_of, high_at, forced_at}
use Rattle.stored_slot.specs.declared.stored.StoredSlot.{StoredSlot}

-- a mask of n bits
mask_turn : (b : Bool) (x n : ℕ) → x < 2 ^ n → x + cond b (2 ^ n) 0 < 2 ^ suc n
mask_turn true x n h = omega arith
mask_turn false x n h = omega arith

pub mask_lt : (n : ℕ) (p : ℕ → Bool) → mask_of n p < 2 ^ n
unfolding mask_of
mask_lt zero p = omega arith
mask_lt (suc n) p = mask_turn (p n) (mask_of n p) n (mask_lt n p)

-- a number in its part below n and its bit at n
same_parts : (x y a h n : ℕ) → x < n → y < n → a < 2 → h < 2 → x + a * n ≡ y + h * n → (x ≡ y) × (a ≡ h)
same_parts x y zero zero n l m p q e = (omega arith, refl)
same_parts x y zero (suc zero) n l m p q e = (omega arith, omega arith)
same_parts x y (suc zero) zero n l m p q e = (omega arith, omega arith)
same_parts x y (suc zero) (suc zero) n l m p q e = (omega arith, refl)
same_parts x y (suc (suc a)) h n l m p q e = (omega arith, omega arith)
same_parts x y zero (suc (suc h)) n l m p q e = (omega arith, omega arith)
same_parts x y (suc zero) (suc (suc h)) n l m p q e = (omega arith, omega arith)

join_case : (x y a h n : ℕ) → x < n → y < n → a < 2 → h < 2 → (t : Bool) → eqb x y ≡ t → (u : Bool) → eqb a h ≡ u → eqb (x + a * n) (y + h * n) ≡ (t && u)
join_case x y a h n l m p q true e true f = eq-eqb (x + a * n) (y + h * n) (rw (eqb-true x y e, eqb-true a h f))
join_case x y a h n l m p q true e false f = ne_eqb (x + a * n) (y + h * n) (λ z. eqb-false a h f (same_parts x y a h n l m p q z).1)
join_case x y a h n l m p q false e u f = ne_eqb (x + a * n) (y + h * n) (λ z. eqb-false x y e (same_parts x y a h n l m p q z).0)

join_eqb : (x y a h n : ℕ) → x < n → y < n → a < 2 → h < 2 → eqb (x + a * n) (y + h * n) ≡ (eqb x y && eqb a h)
join_eqb x y a h n l m p q = join_case x y a h n l m p q (eqb x y) refl (eqb a h) refl

-- the bits of a number under a mask, by one more of its positions
under : (i n x b : ℕ) → x < 2 ^ n → bit_and i (b * 2 ^ n + x) ≡ bit_and (i / 2 ^ n) b * 2 ^ n + bit_and (i % 2 ^ n) x
under i n x b h =
    ap (λ (j : ℕ). bit_and j (b * 2 ^ n + x)) (sym (split i n)) ∙ and_block n (i / 2 ^ n) b (i % 2 ^ n) x (mod-lt i (pow_pos n)) h

under_low : (i n x : ℕ) → x < 2 ^ n → bit_and (i % 2 ^ n) x ≡ bit_and i x
under_low i n x h =
    let none : 0 * 2 ^ n + x ≡ x = omega arith in
    let low : 0 * 2 ^ n + bit_and (i % 2 ^ n) x ≡ bit_and (i % 2 ^ n) x = omega arith in
    sym (rw (none, low) at (rw (and_zero_r (i / 2 ^ n)) at (under i n x 0 h)))

under_case : (i n x : ℕ) (b : Bool) → x < 2 ^ n → bit_and i (x + cond b (2 ^ n) 0) ≡ bit_and i x + cond b (bit i n) 0 * 2 ^ n
under_case i n x true h =
    let e = under i n x 1 h in
    let one : bit_and (i / 2 ^ n) 1 ≡ bit i n = and_mask (i / 2 ^ n) 1 in
    let order : x + 2 ^ n ≡ 1 * 2 ^ n + x = omega arith in
    rw (order, e, one, under_low i n x h) (omega arith)
under_case i n x false h = let none : x + cond false (2 ^ n) 0 ≡ x = omega arith in rw none (omega arith)

-- what may stand at a position: 1 where it is forced high, else 0 where it is forced low
module _ (high low : ℕ → Bool) (i : ℕ) where
  abbrev may : ℕ → Bool
  may p = cond (high p) (eqb (bit i p) 1) (cond (low p) (eqb (bit i p) 0) true)

  may_case : (h l : Bool) (b : ℕ) → eqb (cond (h || l) b 0) (cond h 1 0) ≡ cond h (eqb b 1) (cond l (eqb b 0) true)
  may_case true l b = refl
  may_case false true b = refl
  may_case false false b = refl

  one_or_none : (t : Bool) (b : ℕ) → b < 2 → cond t b 0 < 2
  one_or_none true b h = h
  one_or_none false b h = omega arith

  unit : (t : Bool) (n : ℕ) → cond t n 0 ≡ cond t 1 0 * n
  unit true n = omega arith
  unit false n = omega arith

  masked : (n : ℕ) → eqb (bit_and i (mask_of n (λ p. high p || low p))) (mask_of n high) ≡ each n may
  unfolding mask_of each
  masked zero = rw (and_zero_r i)
  masked (suc n) =
      let forced = mask_of n (λ p. high p || low p) in
      let below : bit_and i forced < 2 ^ n = lt_of_le_of_lt (and_le_r i forced) (mask_lt n (λ p. high p || low p)) in
      let parts = under_case i n forced (high n || low n) (mask_lt n (λ p. high p || low p)) in
      let whole = join_eqb (bit_and i forced) (mask_of n high) (cond (high n || low n) (bit i n) 0) (cond (high n) 1 0) (2 ^ n) below (mask_lt n high)
      (one_or_none (high n || low n) (bit i n) (bit_lt i n)) (one_or_none (high n) 1 (omega arith)) in
      rw (parts, unit (high n) (2 ^ n), whole, masked n, may_case (high n) (low n) (bit i n))

pub masked_free : (s : StoredSlot) (i : ℕ) → eqb (bit_and i (mask_of (stored_pins s) (forced_at s))) (mask_of (stored_pins s) (high_at s)) ≡ free s i
unfolding free
masked_free s i = masked (high_at s) (λ p. names s.num_overrides s.overrides 2 (addr_base s + p)) i (stored_pins s)
