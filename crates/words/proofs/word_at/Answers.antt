-- `word_at` meets its contract. The loop's invariant: the bytes from k on are taken. Assumes nothing.
use mathlib.Core.Path.{◌≡◌}
use mathlib.Core.List.{List}
use Prim.Native.Nat.{ℕ, suc, ◌+◌, ◌*◌, ◌-◌, ◌^◌, ◌≤◌, ◌<◌}
use native.Mathlib.Omega.{arith}
use lib.ListN.{get_or}
use Rattle.words.specs.Words.{word_from}
use Rattle.words.proofs.Words.{byte_more}
use Rattle.words.proofs.word_at.Invariants.{Taken}
use Rattle.words.proofs.word_at.Goals as goal

module _ (b : List ℕ) (at w : ℕ) where
  begin : Taken b at w w 0
  unfolding word_from
  begin = let e : w - w ≡ 0 = omega arith in record { within = omega arith; is = rw e; fits = rw e (omega arith) }

  turn : (k x v : ℕ) → 0 < k → x ≡ get_or b (at + (k - 1)) 0 → x < 256 → Taken b at w k v → Taken b at w (k - 1) (x + 256 * v)
  unfolding word_from
  turn k x v p e l t =
      let n : w - (k - 1) ≡ suc (w - k) = omega arith in
      let a : at + (k - 1) + 1 ≡ at + k = omega arith in
      record { within = omega arith; is = rw (n, a, e, t.is); fits = rw n (byte_more (w - k) v x t.fits l) }

  done : (k v : ℕ) → k ≤ 0 → Taken b at w k v → (v ≡ word_from w b at) × (v < 2 ^ (8 * w))
  done k v h t =
      let n : w - k ≡ w = omega arith in
      let a : at + k ≡ at = omega arith in
      (rw (n, a) at t.is, rw n at t.fits)

pub loop-k-init : goal.loop-k-init
loop-k-init c = begin _ _ _

pub loop-k-preserved : goal.loop-k-preserved
loop-k-preserved c = turn _ _ _ _ _ _ c.loop-k-test.true c.wide.ensures.0 c.wide.ensures.1 c.loop-k.invariant
