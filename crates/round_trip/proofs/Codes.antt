-- The bits that pick a chip: every chip of the slot has some. Assumes nothing.
use Rattle.std.specs.Prelude.{Some}
use mathlib.Core.Path.{◌≡◌, refl, ap}
use mathlib.Core.Bool.{Bool, true, false, cond, ◌&&◌}
use Prim.Native.Nat.{ℕ, zero, suc, ◌+◌, ◌^◌, ◌≤◌, ◌<◌}
use native.Mathlib.Omega.{arith}
use lib.Dec.{leb}
use borrow.Author.Tests.{lt-ltb, eqb-true, leb-true, leb-false}
use Rattle.lists.proofs.Bools.{and_right}
use Rattle.slot.specs.declared.description.ChipSetType.{ChipSetType}
use Rattle.slot.specs.declared.description.ChipSetType.TheVariants.{Single, Banked, Multi}
use Rattle.picks.specs.Picks.{picks_of, picked_by, chips_fit}

abbrev pub code_of : ChipSetType → ℕ → ℕ
code_of Single k = 0
code_of Banked k = k
code_of Multi k = 2 ^ k

bank_lt : (n k : ℕ) (t : Bool) → leb 3 n ≡ t → n ≤ 4 → k < n → k < 2 ^ cond t 2 1
bank_lt n k true e h l = omega arith
bank_lt n k false e h l = let f = leb-false 3 n e in omega arith

one_lt : (n k : ℕ) (t : Bool) → leb 3 n ≡ t → n ≤ 3 → k < n → 2 ^ k < 2 ^ (1 + cond t 2 1)
one_lt n zero true e h l = omega arith
one_lt n zero false e h l = omega arith
one_lt n (suc zero) true e h l = omega arith
one_lt n (suc zero) false e h l = omega arith
one_lt n (suc (suc zero)) true e h l = omega arith
one_lt n (suc (suc zero)) false e h l = let f = leb-false 3 n e in absurd (omega arith)
one_lt n (suc (suc (suc k))) t e h l = absurd (omega arith)

most : (low high n : ℕ) → leb low n && leb n high ≡ true → n ≤ high
most low high n e = leb-true n high (and_right (leb low n) (leb n high) e)

pub code_lt : (t : ChipSetType) (n k : ℕ) → chips_fit t n ≡ true → k < n → code_of t k < 2 ^ picks_of t n
code_lt Single n k f l = omega arith
code_lt Banked n k f l = bank_lt n k (leb 3 n) refl (most 2 4 n f) l
code_lt Multi n k f l = one_lt n k (leb 3 n) refl (most 2 3 n f) l

only-picks : (n k : ℕ) → n ≤ 3 → k < n → picked_by Multi n (2 ^ k) ≡ Some k
only-picks n zero h l = refl
only-picks n (suc zero) h l = refl
only-picks n (suc (suc zero)) h l = refl
only-picks n (suc (suc (suc k))) h l = absurd (omega arith)

pub code_picks : (t : ChipSetType) (n k : ℕ) → chips_fit t n ≡ true → k < n → picked_by t n (code_of t k) ≡ Some k
code_picks Single n k f l = let e : k ≡ 0 = omega (arith, eqb-true n 1 f) in ap Some (rw e)
code_picks Banked n k f l = rw (lt-ltb k n l)
code_picks Multi n k f l = only-picks n k (most 2 3 n f) l
