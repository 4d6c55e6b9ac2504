-- Offset and socket pin over the integers. Assumes nothing.
use Rattle.std.specs.Prelude.{Option, Some, None}
use mathlib.Core.Path.{◌≡◌, refl, sym, ◌∙◌, ap}
use mathlib.Core.Bool.{Bool, true, false, ◌&&◌, cond}
use Prim.Native.Nat.{ℕ, suc, ◌+◌, ◌-◌, ◌≤◌, ◌<◌}
use native.Mathlib.Nat.{lt_of_not-le}
use native.Mathlib.Omega.{arith}
use lib.Dec.{leb, ltb}
use lib.IntN.{ℤ, pos, negsuc, ◌+ℤ◌}
use borrow.Author.Tests.{leb-true, le-leb, ltb-false, lt-ltb, le-ltb}
use Rattle.lists.proofs.Bools.{both}
use Rattle.slot.specs.SlotContext.{raised_of, socket_of}
use Rattle.slot.specs.Law.{SocketLaw}

-- a place on a socket and a natural number, each counted from 1 on, so that 0 is any other
abbrev place : Option ℕ → ℕ
place (Some s) = suc s
place None = 0

abbrev natural : ℤ → ℕ
natural (pos n) = suc n
natural (negsuc n) = 0

on_is : (p board s : ℕ) (t : Bool) → leb 1 p && leb p board ≡ t → cond t (Some p) None ≡ Some s → (p ≡ s) × (1 ≤ p) × (p ≤ board)
on_is p board s true q e =
    let (least, most) = both _ _ q in
    let same : suc p ≡ suc s = ap place e in
    (omega arith, leb-true 1 p least, leb-true p board most)
on_is p board s false q e = let never : 0 ≡ suc s = ap place e in absurd (omega arith)

-- what an offset o that is raised to r comes to
record Raised (o : ℤ) (r : ℕ) : Type 0 where
  pub four : o +ℤ pos 4 ≡ pos r
  pub from_four : (pin : ℕ) → 4 ≤ pin + r → pos pin +ℤ o ≡ pos (pin + r - 4)
  pub below_four : (pin : ℕ) → pin + r < 4 → natural (pos pin +ℤ o) ≡ 0

module _ (o : ℤ) (r : ℕ) (h : Raised o r) where
  on-sum : (pin board s : ℕ) → socket_of pin r board ≡ Some s → (pos pin +ℤ o ≡ pos s) × (1 ≤ s) × (s ≤ board)
  on-sum pin board s e =
      let (same, least, most) = on_is (pin + r - 4) board s _ refl e in
      (h.from_four pin (omega arith) ∙ ap pos same, omega arith, omega arith)

  sum-on : (pin board s : ℕ) → pos pin +ℤ o ≡ pos s → 1 ≤ s → s ≤ board → socket_of pin r board ≡ Some s
  sum-on pin board s e l m =
      let enough : 3 < pin + r = lt_of_not-le (λ (few : pin + r ≤ 3). let z : suc s ≡ 0 = sym (ap natural e) ∙ h.below_four pin (omega arith) in omega arith) in
      let same : suc (pin + r - 4) ≡ suc s = ap natural (sym (h.from_four pin (omega arith)) ∙ e) in
      let at : pin + r - 4 ≡ s = omega arith in
      rw (at, le-leb 1 s l, le-leb s board m)

-- an offset of 0 or more, and one below 0
module _ (n : ℕ) where
  few : (t : Bool) → leb n 4 ≡ t → cond t (n + 4) 255 ≤ 8 → n ≤ 4
  few true q l = leb-true n 4 q
  few false q l = absurd (omega arith)

  raised : raised_of (pos n) ≤ 8 → Raised (pos n) (raised_of (pos n))
  raised l =
      rw (le-leb n 4 (few (leb n 4) refl l))
      (record { four = refl; from_four = λ pin m. ap pos (omega arith); below_four = λ pin m. absurd (omega arith) })

  lowered_few : (t : Bool) → leb n 3 ≡ t → cond t (3 - n) 255 ≤ 8 → n ≤ 3
  lowered_few true q l = leb-true n 3 q
  lowered_few false q l = absurd (omega arith)

  lowered : raised_of (negsuc n) ≤ 8 → Raised (negsuc n) (raised_of (negsuc n))
  lowered l =
      let m = lowered_few (leb n 3) refl l in
      rw (le-leb n 3 m)
      (record {
        four = rw (le-ltb 4 (suc n) (omega arith)) (ap pos (omega arith));
        from_four = λ pin k. rw (le-ltb pin (suc n) (omega arith)) (ap pos (omega arith));
        below_four = λ pin k. rw (lt-ltb pin (suc n) (omega arith));
      })

  back : (k : ℕ) → k ≤ 8 → pos n +ℤ pos 4 ≡ pos k → raised_of (pos n) ≡ k
  back k l e = let same : suc (n + 4) ≡ suc k = ap natural e in rw (le-leb n 4 (omega arith)) (omega arith)

  lowered_back : (k : ℕ) → k ≤ 8 → negsuc n +ℤ pos 4 ≡ pos k → raised_of (negsuc n) ≡ k
  lowered_back k l e = by (ltb 4 (suc n)) refl e
    where
      by : (t : Bool) → ltb 4 (suc n) ≡ t → cond t (negsuc (suc n - suc 4)) (pos (4 - suc n)) ≡ pos k → raised_of (negsuc n) ≡ k
      by true q z = let never : 0 ≡ suc k = ap natural z in absurd (omega arith)
      by false q z =
          let same : suc (4 - suc n) ≡ suc k = ap natural z in
          let m = ltb-false 4 (suc n) q in
          rw (le-leb n 3 (omega arith)) (omega arith)

pub socket_law : (o : ℤ) → SocketLaw o
socket_law (pos n) = record {
  raised_sum = λ l. (raised n l).four;
  sum_raised = back n;
  on-sum = λ l. on-sum (pos n) _ (raised n l);
  sum-on = λ l. sum-on (pos n) _ (raised n l);
}
socket_law (negsuc n) = record {
  raised_sum = λ l. (lowered n l).four;
  sum_raised = lowered_back n;
  on-sum = λ l. on-sum (negsuc n) _ (lowered n l);
  sum-on = λ l. sum-on (negsuc n) _ (lowered n l);
}
