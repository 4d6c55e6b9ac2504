-- `high_word_at` meets its contract. The loop's invariant: the first k bytes are taken. Assumes nothing.
use mathlib.Core.Path.{◌≡◌, sym}
use mathlib.Core.List.{List}
use Prim.Native.Nat.{ℕ, ◌+◌, ◌*◌, ◌^◌, ◌≤◌, ◌<◌}
use native.Mathlib.Numerals.{add-one}
use native.Mathlib.Omega.{arith}
use lib.ListN.{length, get_or}
use Rattle.words.specs.Words.{chip_word_from}
use Rattle.words.specs.declared.ByteOrder.TheVariants.{HighFirst}
use Rattle.words.proofs.Words.{byte_more}
use Rattle.words.proofs.Chip.{high-none, high_more}
use Rattle.words.proofs.high_word_at.Invariants.{Taken}
use Rattle.words.proofs.high_word_at.Goals.{After-wide}
use Rattle.words.proofs.high_word_at.Goals as goal

module _ (b : List ℕ) (at w : ℕ) where
  begin : Taken b at w 0 0
  begin = record { within = omega arith; is = sym (high-none b at); fits = omega arith }

  turn : (k x v : ℕ) → at + w ≤ length b → k < w → x ≡ get_or b (at + k) 0 → x < 256 → Taken b at w k v → Taken b at w (k + 1) (x + 256 * v)
  turn k x v long l e s t = record {
    within = omega arith;
    is = rw (high_more k b at (omega arith), e, t.is);
    fits = rw add-one (byte_more k v x t.fits s);
  }

  done : (k v : ℕ) → w ≤ k → Taken b at w k v → (v ≡ chip_word_from HighFirst w b at) × (v < 2 ^ (8 * w))
  done k v h t = let e : k ≡ w = omega arith in (rw e at t.is, rw e at t.fits)

pub loop-k-init : goal.loop-k-init
loop-k-init c = begin _ _ _

pub loop-k-preserved : goal.loop-k-preserved
loop-k-preserved c =
    turn _ _ _ _ _ _ c.requires.1 c.loop-k-test.true c.wide.ensures.0 c.wide.ensures.1 c.loop-k.invariant
