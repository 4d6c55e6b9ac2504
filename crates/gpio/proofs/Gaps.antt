-- The gap of a set, GPIO by GPIO. Assumes nothing.
use mathlib.Core.Path.{◌≡◌, refl, sym, ◌∙◌, ap}
use mathlib.Core.Logic.{◌⊎◌, inl, inr}
use Prim.Native.Nat.{ℕ, zero, suc, ◌+◌, ◌-◌, ◌*◌, ◌/◌, ◌%◌, ◌^◌, ◌≤◌, ◌<◌}
use native.Mathlib.Nat.{add-zero, pow-suc, zero-div, lt_of_lt_of_le, lt_of_not-le}
use native.Mathlib.Numerals.{one-add}
use native.Mathlib.Omega.{arith}
use lib.Arith.{digits_mod}
use lib.Bits.{bit_xor, differ, xor_step, xor_shr, xor_lt}
use lib.Count.{ones, ones_step, ones_cat, ones-ones, leading_top, trailing_le}
use lib.Pow.{high, high_ones, ones_lt, ones_split, pow_mono, shl-shr, shr_lt, shr_mono, shr-shr}
use borrow.Author.Tests.{eq-eqb, eqb-true}
use Rattle.lists.proofs.Loops.{zero_one}
use Rattle.bits.proofs.Or.{bit-half}
use Rattle.gpio.specs.Set.{lowest, end, width, size, gap}
use Rattle.gpio.specs.Law.{In, SetLaw}
use Rattle.gpio.proofs.Members.{held, held-zero, held_same, held_low, held_high, held-most, lowest-held}

-- a digit is 0 or 1
digit : (x : ℕ) → x < 2 → (x ≡ 0) ⊎ (x ≡ 1)
digit zero l = inl refl
digit (suc zero) l = inr refl
digit (suc (suc x)) l = absurd (omega arith)

-- the bits of a run of w from low on
module _ (w low : ℕ) where
  abbrev run : ℕ
  run = (2 ^ w - 1) * 2 ^ low

  run_small : run < 2 ^ (w + low)
  run_small =
      let some : 1 ≤ 2 ^ low = pow_mono {i = 0} {j = low} (omega arith) in
      let most = pow_mono {i = low} {j = w + low} (omega arith) in
      rw (← high_ones w low) (omega arith)

  run_size : ones run ≡ w
  unfolding ones
  run_size = ap ones (sym (add-zero run)) ∙ ones_cat low (2 ^ w - 1) 0 (pow_mono {i = 0} {j = low} (omega arith)) ∙ rw (ones-ones w, add-zero)

  -- from bit j of the run on
  run_at : (j : ℕ) → held run (low + j) ≡ held (2 ^ w - 1) j
  run_at j = rw (← shr-shr run low j, shl-shr (2 ^ w - 1) low)

odd-ones : (k : ℕ) → 0 < k → (2 ^ k - 1) % 2 ≡ 1
odd-ones zero l = absurd (omega arith)
odd-ones (suc k) l = let some : 1 ≤ 2 ^ k = pow_mono {i = 0} {j = k} (omega arith) in rw pow-suc (omega arith)

ones-held : (w j : ℕ) → j < w → held (2 ^ w - 1) j ≡ 1
ones-held w j l =
    let e : (w - j) + j ≡ w = omega arith in
    let split : 2 ^ w - 1 ≡ (2 ^ (w - j) - 1) * 2 ^ j + (2 ^ j - 1) = ap (λ (x : ℕ). 2 ^ x - 1) (sym e) ∙ ones_split (w - j) j in
    rw (split, high (2 ^ (w - j) - 1) j (ones_lt j)) (odd-ones (w - j) (omega arith))

pub run_held : (w low g : ℕ) → low ≤ g → g < low + w → held (run w low) g ≡ 1
run_held w low g l m =
    let e : low + (g - low) ≡ g = omega arith in
    ap (held (run w low)) (sym e) ∙ run_at w low (g - low) ∙ ones-held w (g - low) (omega arith)

-- below the run there is none
below_run : (x low g : ℕ) → g < low → held (x * 2 ^ low) g ≡ 0
below_run x low zero l = even x low l
  where
    even : (x low : ℕ) → 0 < low → held (x * 2 ^ low) 0 ≡ 0
    even x zero l = absurd (omega arith)
    even x (suc low) l = rw (held-zero, pow-suc) (omega arith)
below_run x zero (suc g) l = absurd (omega arith)
below_run x (suc low) (suc g) l = rw (bit-half (x * 2 ^ suc low) g, half x low) (below_run x low g (omega arith))
  where
    half : (x low : ℕ) → x * 2 ^ suc low / 2 ≡ x * 2 ^ low
    half x low = rw pow-suc (omega arith)

pub held_run : (w low g : ℕ) → held (run w low) g ≡ 1 → (low ≤ g) × (g < low + w)
held_run w low g e =
    let above : low < suc g = lt_of_not-le (λ (h : suc g ≤ low). let z = below_run (2 ^ w - 1) low g (omega arith) in omega arith) in
    (omega arith, omega (arith, held-most (run w low) g (w + low) e (run_small w low)))

-- the bits of a difference
differ_digit : (x y : ℕ) → x < 2 → y < 2 → differ x y < 2
differ_digit zero y l m = m
differ_digit (suc x) zero l m = l
differ_digit (suc zero) (suc zero) l m = omega arith
differ_digit (suc zero) (suc (suc y)) l m = absurd (omega arith)
differ_digit (suc (suc x)) (suc y) l m = absurd (omega arith)

xor_odd : (a b : ℕ) → bit_xor a b % 2 ≡ differ (a % 2) (b % 2)
xor_odd a b =
    ap (λ (x : ℕ). x % 2) (xor_step a b) ∙ digits_mod (bit_xor (a / 2) (b / 2)) (differ_digit (a % 2) (b % 2) (omega arith) (omega arith))

xor_held : (a b g : ℕ) → held (bit_xor a b) g ≡ differ (held a g) (held b g)
xor_held a b g = rw xor_shr (xor_odd (a / 2 ^ g) (b / 2 ^ g))

differs : (x y : ℕ) → x < 2 → y < 2 → differ x y ≡ 1 → ((x ≡ 1) × (y ≡ 0)) ⊎ ((x ≡ 0) × (y ≡ 1))
differs zero y l m e = inr (refl, e)
differs (suc x) zero l m e = inl (e, refl)
differs (suc zero) (suc zero) l m e = absurd (zero_one e)
differs (suc zero) (suc (suc y)) l m e = absurd (omega arith)
differs (suc (suc x)) (suc y) l m e = absurd (omega arith)

-- how many: those of a part and of the rest are those of the whole
differ_part : (x y : ℕ) → x < 2 → y ≤ x → differ x y + y ≡ x
differ_part zero y l m = omega arith
differ_part (suc x) zero l m = omega arith
differ_part (suc zero) (suc zero) l m = refl
differ_part (suc zero) (suc (suc y)) l m = absurd (omega arith)
differ_part (suc (suc x)) (suc y) l m = absurd (omega arith)

half-small : (n a : ℕ) → a < 2 ^ suc n → a / 2 < 2 ^ n
half-small n a l = let h = rw pow-suc at l in omega arith

xor_size : (n a b : ℕ) → a < 2 ^ n → b < 2 ^ n → ((g : ℕ) → held b g ≤ held a g) → ones (bit_xor a b) + ones b ≡ ones a
unfolding ones
xor_size zero a b l m h = let p : a ≡ 0 = omega arith in let q : b ≡ 0 = omega arith in rw (p, q)
xor_size (suc n) a b l m h =
    let rest = xor_size n (a / 2) (b / 2) (half-small n a l) (half-small n b m) (λ g. rw (← bit-half a g, ← bit-half b g) (h (suc g))) in
    let low = differ_part (a % 2) (b % 2) (omega arith) (rw (held-zero a, held-zero b) at (h 0)) in
    rw (ones_step (bit_xor a b), ones_step a, ones_step b, xor_odd a b, xor_shr a b 1) (omega arith)

-- none is held exactly if there are none
held-size : (s g : ℕ) → held s g ≤ ones s
held-size s zero = rw (held-zero s, ones_step s) (omega arith)
held-size s (suc g) = rw (bit-half s g, ones_step s) (let l = held-size (s / 2) g in omega arith)

none-size : (n s : ℕ) → s < 2 ^ n → ((g : ℕ) → held s g ≡ 1 → ⊥) → ones s ≡ 0
unfolding ones
none-size zero s l h = let e : s ≡ 0 = omega arith in rw e
none-size (suc n) s l h =
    let rest = none-size n (s / 2) (half-small n s l) (λ g e. h (suc g) (rw bit-half e)) in
    let low : s % 2 ≡ 0 = elim (digit (s % 2) (omega arith)) [ inl e ↦ e | inr e ↦ absurd (h 0 (rw held-zero e)) ] in
    rw (ones_step s, rest, low)

-- the highest is held
highest-held : (s : ℕ) → 0 < s → s < 2 ^ 64 → held s (end s - 1) ≡ 1
highest-held s p l =
    let (j, e, least, most) = leading_top 64 s p l in
    let at : end s - 1 ≡ j = omega arith in
    let top : s / 2 ^ j < 2 ^ 1 = shr_lt 1 j (rw one-add most) in
    let some = shr_mono j least in
    let one = held_same j in
    ap (held s) at ∙ omega arith

module _ (s : ℕ) (small : s < 2 ^ 64) where
  some : (g : ℕ) → In s g → 0 < s
  some g e = lt_of_not-le (λ (h : s ≤ 0). let z : s ≡ 0 = omega arith in let n = rw (z, zero-div) at e in omega arith)

  low_in : (g : ℕ) → In s g → In s (lowest s)
  low_in g e = lowest-held s (omega (arith, held_low s g e, held-most s g 64 e small))

  -- the run from the lowest to the highest, of which the set is a part
  abbrev whole : ℕ
  whole = run (width s) (lowest s)

  part_run : (g : ℕ) → In s g → In whole g
  part_run g e = run_held (width s) (lowest s) g (held_low s g e) (omega (arith, held_low s g e, held_high s g small e))

  part_le : (g : ℕ) → held s g ≤ held whole g
  part_le g = elim (digit (held s g) (omega arith)) [
    | inl e ↦ rw e (omega arith)
    | inr e ↦ rw (e, part_run g e) (omega arith)
  ]

  -- what is in the run and not in the set
  pub in_gap : (g : ℕ) → In (gap s) g → In whole g × (In s g → ⊥)
  in_gap g e = elim (differs (held whole g) (held s g) (omega arith) (omega arith) (sym (xor_held whole s g) ∙ e)) [
    | inl (r, n) ↦ (r, λ y. zero_one (sym n ∙ y))
    | inr (r, y) ↦ absurd (zero_one (sym r ∙ part_run g y))
  ]

  gap_in : (g : ℕ) → In whole g → (In s g → ⊥) → In (gap s) g
  gap_in g r n = elim (digit (held s g) (omega arith)) [
    | inl e ↦ xor_held whole s g ∙ rw (r, e)
    | inr e ↦ absurd (n e)
  ]

  -- a GPIO of the run that is not in the set is neither the lowest nor the highest
  between : (g : ℕ) → In (gap s) g → (lowest s < g) × (g + 1 < end s) × (In s g → ⊥)
  between g e =
      let (r, n) = in_gap g e in
      let (l, m) = held_run (width s) (lowest s) g r in
      let low = lowest-held s (omega arith) in
      let high = highest-held s (some (lowest s) low) small in (
        lt_of_not-le (λ (h : g ≤ lowest s). let q : g ≡ lowest s = omega arith in n (rw q low)),
        lt_of_not-le (λ (h : end s ≤ g + 1). let q : g ≡ end s - 1 = omega arith in n (rw q high)),
        n,
      )

  run_bits : whole < 2 ^ 64
  run_bits = lt_of_lt_of_le (run_small (width s) (lowest s)) (pow_mono {j = 64} (omega (arith, trailing_le 64 s)))

  gap-size : size (gap s) + size s ≡ width s
  gap-size = xor_size 64 whole s run_bits small part_le ∙ run_size (width s) (lowest s)

  pub set_law : SetLaw s
  set_law = record {
    lowest_in = low_in;
    highest_in = λ g e. highest-held s (some g e) small;
    lowest_least = λ g e. held_low s g e;
    highest-most = λ g e. held_high s g small e;
    gap-between = between;
    between-gap = λ g l m n. gap_in g (run_held (width s) (lowest s) g (omega arith) (omega arith)) n;
    gapless-none = λ e g h. let z = held-size (gap s) g in omega (arith, eqb-true (width s) (size s) e, gap-size);
    none-gapless = λ h. eq-eqb (width s) (size s) (let z = none-size 64 (gap s) (xor_lt 64 whole s run_bits small) h in omega (arith, gap-size));
  }
