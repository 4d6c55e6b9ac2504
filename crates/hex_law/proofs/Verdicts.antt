-- A text is sound or has a first line at fault, and its verdict says which. Assumes nothing.
use Rattle.std.specs.Prelude.{Option, Some, None}
use mathlib.Core.Path.{◌≡◌, refl, ◌∙◌, ap}
use mathlib.Core.Bool.{Bool, true, false, cond}
use mathlib.Core.List.{List, []}
use mathlib.Core.Logic.{◌⊎◌, inl, inr}
use Prim.Native.Nat.{ℕ, zero, suc, ◌+◌, ◌≤◌, ◌<◌}
use native.Mathlib.Nat.{le_of_suc-le-suc, eq-or-lt_of_le}
use native.Mathlib.Numerals.{add-one}
use native.Mathlib.Omega.{arith}
use lib.ListN.{length, drop, drop_of_length-le}
use lib.Seq.{drop-cons}
use Rattle.lists.proofs.Loops.{zero_one}
use Rattle.refusal.specs.declared.Refusal.{Refusal}
use Rattle.refusal.specs.declared.Refusal.TheVariants.{BadRecord}
use Rattle.hex_record.specs.Record.{is_end, line_fault}
use Rattle.hex_read.specs.Lines.{lines_of}
use Rattle.hex_read.specs.Read.{Verdict, no_fault, fault_at, of_line, behind_end, judged}
use Rattle.hex_read.specs.declared.judge.Fault.{Fault}
use Rattle.hex_law.specs.Verdicts.{line_at, upper_at, SoundAt, GoesOn, SoundText, FaultyAt, own, behind, missing, Faulty, VerdictLaw}

module _ (size : ℕ) (lines : List (List ℕ)) where
  -- what the lines come to, and what those from number k on do
  abbrev verdict : Verdict
  verdict = judged size 0 1 lines

  abbrev from : ℕ → Verdict
  from k = judged size (upper_at lines k) (suc k) (drop k lines)

  -- line k is judged first, then those behind it
  line_first : (k : ℕ) → k < length lines
      → from k ≡ of_line (suc k) (line_fault size (upper_at lines k) (line_at lines k)) (cond (is_end (line_at lines k)) (behind_end (suc (suc k)) (drop (suc k) lines)) (from (suc k)))
  unfolding judged upper_at
  line_first k h = rw (drop-cons lines k [] h)

  -- lines that a reader goes on behind
  gone : (k : ℕ) → k ≤ length lines → GoesOn size lines k → verdict ≡ from k
  unfolding upper_at
  gone zero h g = refl
  gone (suc k) h g =
      let (sound, more) = g k (omega arith) in gone k (omega arith) (λ j l. g j (omega arith)) ∙ line_first k h ∙ rw (sound, more)

  goes_more : (k : ℕ) → GoesOn size lines k → SoundAt size lines k → is_end (line_at lines k) ≡ false → GoesOn size lines (suc k)
  goes_more k g e f j h = elim (eq-or-lt_of_le (le_of_suc-le-suc h)) [ inl q ↦ rw q (e, f) | inr l ↦ g j l ]

  -- an end record answers by what stands behind it
  ended : (k : ℕ) → k < length lines → GoesOn size lines k → SoundAt size lines k → is_end (line_at lines k) ≡ true
      → verdict ≡ behind_end (suc (suc k)) (drop (suc k) lines)
  ended k h g e f = gone k (omega arith) g ∙ line_first k h ∙ rw (e, f)

  is_sound : SoundText size lines → verdict ≡ no_fault
  is_sound s =
      let long = s.long in
      ended s.last (omega arith) s.before s.sound s.end ∙ rw (drop_of_length-le lines {i = suc s.last} (omega arith))

  is_fault : (k : ℕ) (why : Refusal) → FaultyAt size lines k why → verdict ≡ fault_at (k + 1) why
  unfolding judged
  is_fault k why (own h g e) = gone k (omega arith) g ∙ line_first k h ∙ rw (e, add-one k)
  is_fault k why (behind e q h g s n w) = ended e (omega arith) g s n ∙ rw (drop-cons lines (suc e) [] (omega arith), q, w, add-one (e + 1), add-one e)
  is_fault k why (missing q g w) = gone k (omega arith) g ∙ rw (drop_of_length-le lines {i = k} (omega arith), w, add-one k)

  -- a reader stops at one of the lines, or behind them
  abbrev Stops : Type 0
  Stops = SoundText size lines ⊎ Faulty size lines

  abbrev faulty : (k : ℕ) (why : Refusal) → FaultyAt size lines k why → Stops
  faulty k why f = inr (record { at = k; why = why; first = f })

  at-end : (n k : ℕ) → k + suc n ≡ length lines → GoesOn size lines k → SoundAt size lines k → is_end (line_at lines k) ≡ true → Stops
  at-end zero k e g s f = inl (record { last = k; long = omega arith; before = g; sound = s; end = f })
  at-end (suc n) k e g s f = faulty (k + 1) BadRecord (behind k refl (omega arith) g s f refl)

  stops : (n k : ℕ) → k + n ≡ length lines → GoesOn size lines k → Stops
  stops zero k e g = faulty k BadRecord (missing (omega arith) g refl)
  stops (suc n) k e g = by (line_fault size (upper_at lines k) (line_at lines k)) refl (is_end (line_at lines k)) refl (stops n (suc k) (omega arith))
    where
      by : (f : Option Refusal) → line_fault size (upper_at lines k) (line_at lines k) ≡ f → (t : Bool) → is_end (line_at lines k) ≡ t → (GoesOn size lines (suc k) → Stops) → Stops
      by (Some why) f t h more = faulty k why (own (omega arith) g f)
      by None f true h more = at-end n k e g f h
      by None f false h more = more (goes_more k g f h)

  stops_somewhere : Stops
  stops_somewhere = stops (length lines) 0 (omega arith) (λ k h. absurd (omega arith))

  to_sound : Stops → verdict ≡ no_fault → SoundText size lines
  to_sound (inl s) e = s
  to_sound (inr f) e = let g = is_fault f.at f.why f.first in absurd (zero_one cc)

  to_fault : Stops → (at : ℕ) (why : Refusal) → verdict ≡ fault_at (at + 1) why → FaultyAt size lines at why
  to_fault (inl s) at why e = let g = is_sound s in absurd (zero_one cc)
  to_fault (inr f) at why e = same f.at f.why f.first
    where
      same : (k : ℕ) (w : Refusal) → FaultyAt size lines k w → FaultyAt size lines at why
      same k w h =
          let g = is_fault k w h in
          let f : ◌≡◌ {A = Fault} (record { line = k + 1; why = w }) (record { line = at + 1; why = why }) = cc in
          let l : k + 1 ≡ at + 1 = ap (λ (x : Fault). x.line) f in
          let p : k ≡ at = omega arith in
          let q : w ≡ why = ap (λ (x : Fault). x.why) f in
          rw (p, q) at h

pub verdict_law : (text : List ℕ) (size : ℕ) → VerdictLaw text size
verdict_law text size = record {
  either = stops_somewhere size (lines_of text);
  sound = to_sound size (lines_of text) (stops_somewhere size (lines_of text));
  is_sound = is_sound size (lines_of text);
  fault = to_fault size (lines_of text) (stops_somewhere size (lines_of text));
  is_fault = is_fault size (lines_of text);
}
