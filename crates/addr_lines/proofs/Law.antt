-- How many lines are in range, by the logarithm. Assumes nothing.
use mathlib.Core.Path.{◌≡◌, refl}
use mathlib.Core.Bool.{Bool, true, false, cond}
use Prim.Native.Nat.{ℕ, zero, suc, ◌+◌, ◌/◌, ◌^◌, ◌≤◌, ◌<◌}
use native.Mathlib.Nat.{add-zero, div-one, lt_of_not-le}
use native.Mathlib.Omega.{arith}
use lib.Dec.{leb, ltb, eqb}
use lib.Pow.{pow_mono}
use borrow.Author.Tests.{leb-true, leb-false, ltb-true, ltb-false, eqb-true, eqb-false}
use Rattle.lists.specs.Each.{tally}
use Rattle.slot.specs.declared.description.Description.{Description}
use Rattle.domain.specs.Domain.{description_in}
use Rattle.domain.proofs.Bounds.{description_in_lem}
use Rattle.addr_lines.specs.Range.{most_entries, reach}
use Rattle.addr_lines.specs.Law.{RangeLaw}

-- of the powers 2^1 .. 2^n those that are at most m, counted
module _ (m : ℕ) (some : 1 ≤ m) where
  abbrev counted : ℕ → ℕ
  counted n = tally n (λ k. leb (2 ^ (k + 1)) m)

  record Counted (n c : ℕ) : Type 0 where
    pub within : c ≤ n
    pub reached : 2 ^ c ≤ m
    pub not_passed : c < n → m < 2 ^ (c + 1)

  step : (n c : ℕ) (t : Bool) → leb (2 ^ (n + 1)) m ≡ t → Counted n c → Counted (suc n) (c + cond t 1 0)
  step n c true q h =
      let l = leb-true (2 ^ (n + 1)) m q in
      let all : n < suc c = lt_of_not-le (λ (few : suc c ≤ n). let p = h.not_passed (omega arith) in let w = pow_mono {i = c + 1} {j = n + 1} (omega arith) in omega arith) in
      let e : n ≡ c = omega (arith, h.within) in
      record { within = omega arith; reached = rw (← e) l; not_passed = λ less. absurd (omega arith) }
  step n c false q h =
      let l = leb-false (2 ^ (n + 1)) m q in
      record {
        within = omega (arith, h.within);
        reached = rw add-zero h.reached;
        not_passed = λ less. rw add-zero (by (ltb c n) refl);
      }
    where
      by : (t : Bool) → ltb c n ≡ t → m < 2 ^ (c + 1)
      by true e = h.not_passed (ltb-true c n e)
      by false e = let same : c ≡ n = omega (arith, ltb-false c n e, h.within) in rw same (leb-false (2 ^ (n + 1)) m q)

  counts : (n : ℕ) → Counted n (counted n)
  unfolding tally
  counts zero = record { within = omega arith; reached = some; not_passed = λ l. absurd (omega arith) }
  counts (suc n) = step n (counted n) (leb (2 ^ (n + 1)) m) refl (counts n)

-- L / w, w being 1 or 2
entries-most : (l w : ℕ) (t : Bool) → eqb w 2 ≡ t → 1 ≤ w → w ≤ 2 → cond t (l / 2) l ≡ l / w
entries-most l w true q p r = rw (eqb-true w 2 q)
entries-most l w false q p r = let e : w ≡ 1 = let n = eqb-false w 2 q in one w p r n in rw (e, div-one)
  where
    one : (w : ℕ) → 1 ≤ w → w ≤ 2 → (w ≡ 2 → ⊥) → w ≡ 1
    one (suc zero) p r n = refl
    one (suc (suc zero)) p r n = absurd (n refl)
    one zero p r n = absurd (omega arith)
    one (suc (suc (suc w))) p r n = absurd (omega arith)

some-entries : (l : ℕ) (t : Bool) → 256 ≤ l → l ≤ 1048576 → (1 ≤ cond t (l / 2) l) × (cond t (l / 2) l < 2 ^ 21)
some-entries l true p q = (omega arith, omega arith)
some-entries l false p q = (omega arith, omega arith)

pub range_law : (d : Description) → description_in d ≡ true → RangeLaw d
unfolding reach
range_law d e =
    let (least, most) = (description_in_lem d e).image_size in
    let (one, two) = (description_in_lem d e).word_bytes in
    let (some, few) = some-entries d.max_image_size (eqb d.word_bytes 2) least most in
    let all = counts (most_entries d) some 20 in
    record {
      most = entries-most d.max_image_size d.word_bytes _ refl one two;
      reached = all.reached;
      not_passed = by (most_entries d) some few (ltb (counted (most_entries d) some 20) 20) refl;
    }
  where
    by : (m : ℕ) (some : 1 ≤ m) → m < 2 ^ 21 → (t : Bool) → ltb (counted m some 20) 20 ≡ t → m < 2 ^ (counted m some 20 + 1)
    by m some few true q = (counts m some 20).not_passed (ltb-true _ 20 q)
    by m some few false q =
        let same : 20 ≡ counted m some 20 = omega (arith, ltb-false (counted m some 20) 20 q, (counts m some 20).within) in
        rw (← same) few
