-- The first that passes: what it is, that it is one, and what it does not depend on. Assumes nothing.
use mathlib.Core.Path.{◌≡◌, refl, sym}
use mathlib.Core.Bool.{Bool, true, false, cond}
use mathlib.Core.Logic.{inl, inr}
use Prim.Native.Nat.{ℕ, zero, suc, ◌≤◌, ◌<◌}
use native.Mathlib.Nat.{le_of_suc-le-suc, eq-or-lt_of_le, lt_of_not-le}
use native.Mathlib.Omega.{arith}
use lib.Dec.{ltb}
use borrow.Author.Tests.{ltb-true, ltb-false, lt-ltb, le-ltb}
use Rattle.lists.specs.First.{first_where}
use Rattle.lists.proofs.Loops.{zero_one}

-- x is the first of 0 .. n - 1 that passes, or n where none does
pub record First (n : ℕ) (p : ℕ → Bool) (x : ℕ) : Type 0 where
  pub within : x ≤ n
  pub passes : x < n → p x ≡ true
  pub before : (k : ℕ) → k < x → p k ≡ false

-- a test that passes and fails
pub never_both : (b : Bool) → b ≡ true → b ≡ false → ⊥
never_both b e f = zero_one cc

pub not_less : (x y : ℕ) → (x < y → ⊥) → y ≤ x
not_less x y h = le_of_suc-le-suc (lt_of_not-le h)

module _ (p : ℕ → Bool) where
  first_step : (n x : ℕ) (t b : Bool) → ltb x n ≡ t → p n ≡ b → First n p x → First (suc n) p (cond t x (cond b n (suc n)))
  first_step n x true b e g h =
      let l = ltb-true x n e in record { within = omega arith; passes = λ q. h.passes l; before = h.before }
  first_step n x false true e g h =
      let l = ltb-false x n e in record { within = omega arith; passes = λ q. g; before = λ k q. h.before k (omega arith) }
  first_step n x false false e g h =
      let l = ltb-false x n e in
      record {
        within = omega arith;
        passes = λ q. absurd (omega arith);
        before = λ k q. elim (eq-or-lt_of_le (le_of_suc-le-suc q)) [ inl same ↦ rw same g | inr less ↦ h.before k (omega arith) ];
      }

  pub first_is : (n : ℕ) → First n p (first_where n p)
  unfolding first_where
  first_is zero = record { within = omega arith; passes = λ q. absurd (omega arith); before = λ k q. absurd (omega arith) }
  first_is (suc n) = first_step n (first_where n p) (ltb (first_where n p) n) (p n) refl refl (first_is n)

  -- there is one
  not-before : (n x y : ℕ) → First n p x → First n p y → x < y → ⊥
  not-before n x y f g l = let w = g.within in never_both (p x) (f.passes (omega arith)) (g.before x l)

  pub first_one : (n x : ℕ) → First n p x → first_where n p ≡ x
  first_one n x f =
      let g = first_is n in
      let l = not_less x (first_where n p) (not-before n x (first_where n p) f g) in
      let r = not_less (first_where n p) x (not-before n (first_where n p) x g f) in
      omega arith

  pub first-within : (n : ℕ) → first_where n p ≤ n
  first-within n = (first_is n).within

  pub first_passes : (n : ℕ) → first_where n p < n → p (first_where n p) ≡ true
  first_passes n = (first_is n).passes

  pub first-before : (n k : ℕ) → k < first_where n p → p k ≡ false
  first-before n = (first_is n).before

  -- what passes is not before it
  pub first-most : (n k : ℕ) → p k ≡ true → first_where n p ≤ k
  first-most n k e = not_less k (first_where n p) (λ l. never_both (p k) e (first-before n k l))

  pub first_found : (n k : ℕ) → k < n → p k ≡ true → first_where n p < n
  first_found n k l e = let m = first-most n k e in omega arith

  -- once found it stays, however many are looked at past it
  pub first-stays : (m n : ℕ) → first_where m p < m → first_where m p < n → first_where n p ≡ first_where m p
  first-stays m n l h =
      first_one n (first_where m p) (record { within = omega arith; passes = λ q. first_passes m l; before = first-before m })

-- a loop that looks for the first: none before k passes, and k does, or is past the last
module _ (p : ℕ → Bool) (n k : ℕ) (before : (j : ℕ) → j < k → p j ≡ false) where
  pub first_here : k < n → p k ≡ true → k ≡ first_where n p
  first_here l e = sym (first_one p n k (record { within = omega arith; passes = λ q. e; before = before }))

  pub first_nowhere : n ≤ k → n ≡ first_where n p
  first_nowhere h = sym (first_one p n n (record { within = omega arith; passes = λ q. absurd (omega arith); before = λ j q. before j (omega arith) }))

-- tests that agree below the count
pub first_cong : (n : ℕ) (p q : ℕ → Bool) → ((k : ℕ) → k < n → p k ≡ q k) → first_where n p ≡ first_where n q
unfolding first_where
first_cong zero p q h = refl
first_cong (suc n) p q h = rw (first_cong n p q (λ k l. h k (omega arith)), h n (omega arith))

-- what stands at the first, where there is one, once one more is looked at
module _ {A : Type 0} (v : ℕ → A) (z : A) where
  more_case : (m x : ℕ) (b c : Bool) → ltb x m ≡ b
      → cond (ltb (cond b x (cond c m (suc m))) (suc m)) (v (cond b x (cond c m (suc m)))) z ≡ cond b (v x) (cond c (v m) z)
  more_case m x true c e = let l = ltb-true x m e in rw (lt-ltb x (suc m) (omega arith))
  more_case m x false true e = rw (lt-ltb m (suc m) (omega arith))
  more_case m x false false e = rw (le-ltb (suc m) (suc m) (omega arith))

  pub first_more : (p : ℕ → Bool) (m : ℕ)
      → cond (ltb (first_where (suc m) p) (suc m)) (v (first_where (suc m) p)) z ≡ cond (ltb (first_where m p) m) (v (first_where m p)) (cond (p m) (v m) z)
  unfolding first_where
  first_more p m = more_case m (first_where m p) (ltb (first_where m p) m) (p m) refl
