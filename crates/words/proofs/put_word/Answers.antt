-- `put_word` meets its contract. The loop's invariant: what is written, then the bytes that are left. Assumes nothing.
use mathlib.Core.Path.{◌≡◌, refl}
use mathlib.Core.List.{List, ◌++◌, append-nil}
use Prim.Native.Nat.{ℕ, suc, ◌+◌, ◌/◌, ◌%◌, ◌-◌, ◌≤◌, ◌<◌}
use native.Mathlib.Nat.{add-zero}
use native.Mathlib.Omega.{arith}
use lib.ListN.{length, take, drop, set, length-set, take-append-drop}
use lib.Seq.{take-suc-set, drop-set-lt, append_snoc}
use Rattle.words.specs.Words.{bytes_of}
use Rattle.words.proofs.put_word.Invariants.{Written}
use Rattle.words.proofs.put_word.Goals as goal

module _ (old : List ℕ) (at w x : ℕ) where
  begin : Written old at w x old x 0
  begin = let e : w - 0 ≡ w = omega arith in record { within = omega arith; long = refl; left = rw (add-zero, e) }

  turn : (out : List ℕ) (rest k b : ℕ) → at + w ≤ length old → k < w → b ≡ rest % 256 → Written old at w x out rest k
      → Written old at w x (set out (at + k) b) (rest / 256) (k + 1)
  unfolding bytes_of
  turn out rest k b l h e i =
      let inside : at + k < length out = omega arith in
      let below : at + k < at + w = omega arith in
      let next : at + (k + 1) ≡ suc (at + k) = omega arith in
      let one_less : w - k ≡ suc (w - (k + 1)) = omega arith in
      record {
        within = omega arith;
        long = simp length-set i.long;
        left = rw (next, take-suc-set out (at + k) b inside, drop-set-lt (at + w) out (at + k) b below, append_snoc, e) (rw one_less at i.left);
      }

  done : (out : List ℕ) (rest k : ℕ) → w ≤ k → Written old at w x out rest k → out ≡ take at old ++ bytes_of w x ++ drop (at + w) old
  unfolding bytes_of
  done out rest k h i =
      let e : k ≡ w = omega arith in
      let none : w - w ≡ 0 = omega arith in
      rw (e, none, append-nil, take-append-drop) at i.left

pub loop-k-preserved : goal.loop-k-preserved
loop-k-preserved c =
    turn _ _ _ _ _ _ _ _ c.requires c.loop-k-test.true c.low.ensures c.loop-k.invariant

pub returns : goal.returns
returns c = done _ _ _ _ _ _ _ c.loop-k-test.false c.loop-k.invariant
