-- The line that a caller is told of is the one that the read was refused for. Assumes nothing.
use Rattle.std.specs.Prelude.{Ok, Err}
use mathlib.Core.Path.{◌≡◌, refl}
use mathlib.Core.Bool.{Bool, true, false}
use mathlib.Core.List.{List}
use mathlib.Core.Logic.{◌⊎◌, inl, inr}
use Prim.Native.Nat.{ℕ, ◌+◌, ◌^◌, ◌≤◌, ◌<◌}
use native.Mathlib.Omega.{arith}
use lib.ListN.{length}
use borrow.Author.Tests.{ltb-true}
use Rattle.lists.proofs.Loops.{zero_one}
use Rattle.refusal.specs.declared.Refusal.{Refusal}
use Rattle.refusal.specs.declared.Refusal.TheVariants.{OutOfDomain}
use Rattle.hex_base.specs.Size.{too_long}
use Rattle.hex_read.specs.Lines.{lines_of}
use Rattle.hex_read.specs.Read.{no_fault, fault_at, verdict_of, read_of, fault_line}
use Rattle.hex_law.specs.Verdicts.{SoundText, FaultyAt, Faulty}
use Rattle.hex_law.specs.FaultLine.{FaultLineLaw}
use Rattle.hex_law.proofs.Verdicts.{verdict_law}

module _ (text chip : List ℕ) where
  abbrev size : ℕ
  size = length chip

  -- what is told and what the read answers, by the chip's length and the text's verdict
  long-line : too_long size ≡ true → fault_line text size ≡ 0
  unfolding fault_line
  long-line e = rw e

  long-answer : too_long size ≡ true → (read_of text chip).answer ≡ Err OutOfDomain
  unfolding read_of
  long-answer e = rw e

  sound-line : too_long size ≡ false → verdict_of text size ≡ no_fault → fault_line text size ≡ 0
  unfolding fault_line
  sound-line e f = rw (e, f)

  sound-answer : too_long size ≡ false → verdict_of text size ≡ no_fault → (read_of text chip).answer ≡ Ok tt
  unfolding read_of
  sound-answer e f = rw (e, f)

  fault-line : (at : ℕ) (why : Refusal) → too_long size ≡ false → verdict_of text size ≡ fault_at at why → fault_line text size ≡ at
  unfolding fault_line
  fault-line at why e f = rw (e, f)

  fault-answer : (at : ℕ) (why : Refusal) → too_long size ≡ false → verdict_of text size ≡ fault_at at why → (read_of text chip).answer ≡ Err why
  unfolding read_of
  fault-answer at why e f = rw (e, f)

  -- the two together: one of three, each with what is known of it
  data Comes : Type 0 where
    long : 2 ^ 24 < size → fault_line text size ≡ 0 → (read_of text chip).answer ≡ Err OutOfDomain → Comes
    sound : fault_line text size ≡ 0 → (read_of text chip).answer ≡ Ok tt → Comes
    fault : (at : ℕ) (why : Refusal) → fault_line text size ≡ at + 1 → (read_of text chip).answer ≡ Err why → FaultyAt size (lines_of text) at why → Comes

  comes : Comes
  comes = by (too_long size) refl (verdict_law text size).either
    where
      by : (t : Bool) → too_long size ≡ t → SoundText size (lines_of text) ⊎ Faulty size (lines_of text) → Comes
      by true e s = long (ltb-true (2 ^ 24) size e) (long-line e) (long-answer e)
      by false e (inl s) = let v = (verdict_law text size).is_sound s in sound (sound-line e v) (sound-answer e v)
      by false e (inr f) =
          let v = (verdict_law text size).is_fault f.at f.why f.first in
          fault f.at f.why (fault-line _ _ e v) (fault-answer _ _ e v) f.first

  to_told : Comes → (at : ℕ) → fault_line text size ≡ at + 1 → (why : Refusal) × (((read_of text chip).answer ≡ Err why) × FaultyAt size (lines_of text) at why)
  to_told (long h l a) at e = absurd (omega arith)
  to_told (sound l a) at e = absurd (omega arith)
  to_told (fault k why l a f) at e = let p : k ≡ at = omega arith in (why, (a, rw p at f))

  to_none : Comes → fault_line text size ≡ 0 → ((read_of text chip).answer ≡ Ok tt) ⊎ ((2 ^ 24 < size) × ((read_of text chip).answer ≡ Err OutOfDomain))
  to_none (long h l a) e = inr (h, a)
  to_none (sound l a) e = inl a
  to_none (fault k why l a f) e = absurd (omega arith)

  to_refused : Comes → (why : Refusal) → size ≤ 2 ^ 24 → (read_of text chip).answer ≡ Err why
      → (at : ℕ) × ((fault_line text size ≡ at + 1) × FaultyAt size (lines_of text) at why)
  to_refused (long h l a) why small e = absurd (omega arith)
  to_refused (sound l a) why small e = absurd (zero_one cc)
  to_refused (fault k w l a f) why small e = let q : w ≡ why = cc in (k, (l, rw q at f))

pub fault_line_law : (text chip : List ℕ) → FaultLineLaw text chip
fault_line_law text chip = record {
  told = λ at e. to_told text chip (comes text chip) at (omega arith);
  none = to_none text chip (comes text chip);
  refused = to_refused text chip (comes text chip);
}
