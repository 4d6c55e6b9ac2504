-- What a loop over the entries up to a count needs of `each` and `tally`; `each` and the rule for every entry. Assumes nothing.
use mathlib.Core.Path.{◌≡◌, refl}
use mathlib.Core.Logic.{inl, inr}
use mathlib.Core.Bool.{Bool, true, ◌&&◌, cond}
use Prim.Native.Nat.{ℕ, zero, suc, ◌+◌, ◌<◌}
use native.Mathlib.Nat.{not-suc-le-zero, le_of_suc-le-suc, eq-or-lt_of_le}
use native.Mathlib.Numerals.{add-one}
use native.Mathlib.Omega.{arith}
use Rattle.lists.specs.Each.{each, tally}
use Rattle.lists.proofs.Bools.{and_left, and_right}

-- before the first turn
pub each_none : (p : ℕ → Bool) → true ≡ each 0 p
unfolding each
each_none p = refl

-- one turn: so far, and the entry k
pub each_turn : (p : ℕ → Bool) (k : ℕ) (ok : Bool) → ok ≡ each k p → ok && p k ≡ each (k + 1) p
unfolding each
each_turn p k ok e = rw (e, add-one)

pub tally-none : (p : ℕ → Bool) → 0 ≡ tally 0 p
unfolding tally
tally-none p = refl

pub tally-turn : (p : ℕ → Bool) (k n : ℕ) → n ≡ tally k p → n + cond (p k) 1 0 ≡ tally (k + 1) p
unfolding tally
tally-turn p k n e = rw (e, add-one)

-- a rule that each entry keeps
pub each_all : (p : ℕ → Bool) (n : ℕ) → ((k : ℕ) → k < n → p k ≡ true) → each n p ≡ true
unfolding each
each_all p zero h = refl
each_all p (suc n) h = rw (each_all p n (λ k q. h k (omega arith)), h n (omega arith))

-- and the other way: an entry below the count
pub each_at : (p : ℕ → Bool) (n : ℕ) → each n p ≡ true → (k : ℕ) → k < n → p k ≡ true
unfolding each
each_at p zero e k h = absurd (not-suc-le-zero h)
each_at p (suc n) e k h =
    let first = and_left (each n p) (p n) e in
    let last = and_right (each n p) (p n) e in
    elim (eq-or-lt_of_le (le_of_suc-le-suc h)) [ inl q ↦ rw q last | inr q ↦ each_at p n first k q ]
