-- The first fault of a text, line by line. Assumes nothing.
use Rattle.std.specs.Prelude.{Option, Some, None, Ok, Err}
use mathlib.Core.Path.{◌≡◌, refl, sym, ap}
use mathlib.Core.Bool.{Bool, true, false, ◌&&◌, cond}
use mathlib.Core.List.{List, [], ◌∷◌}
use Prim.Native.Nat.{ℕ, suc, ◌+◌, ◌-◌, ◌<◌, ◌≤◌}
use native.Mathlib.Numerals.{add-one}
use native.Mathlib.Omega.{arith}
use lib.Dec.{eqb}
use lib.ListN.{length, get_or, take, drop, length-drop}
use lib.Seq.{take_all}
use borrow.Author.Tests.{eqb-true}
use Rattle.lists.proofs.Bools.{and_right}
use Rattle.lists.proofs.Loops.{zero_one}
use Rattle.refusal.specs.declared.Refusal.{Refusal}
use Rattle.refusal.specs.declared.Refusal.TheVariants.{BadRecord}
use Rattle.hex_base.specs.Size.{too_long}
use Rattle.hex_record.specs.Record.{is_end, line_fault, upper_after}
use Rattle.hex_read.specs.Lines.{onto, lines_of}
use Rattle.hex_read.specs.Read.{Verdict, no_fault, fault_at, of_line, behind_end, judged, verdict_of, line_in, fault_line}
use Rattle.hex_read.specs.declared.judge.Fault.{Fault}
use Rattle.hex_read.specs.Design.Places.{FirstLine, AllSound}

-- a text that has a byte has a line
abbrev HasLine : List (List ℕ) → Type 0
HasLine [] = ⊥
HasLine (line ∷ lines) = Unit

onto-some : (c : ℕ) (lines : List (List ℕ)) → HasLine (onto c lines)
onto-some c [] = tt
onto-some c (line ∷ lines) = tt

some-lines : (text : List ℕ) → 0 < length text → HasLine (lines_of text)
unfolding lines_of
some-lines [] h = absurd (omega arith)
some-lines (c ∷ text) h = by (eqb c 10) (eqb c 13 && eqb (get_or text 0 0) 10) refl (λ l. some-lines text l)
  where
    filled : (s : List ℕ) → eqb c 13 && eqb (get_or s 0 0) 10 ≡ true → 0 < length s
    filled [] e = absurd (omega (arith, eqb-true 0 10 (and_right (eqb c 13) _ e)))
    filled (d ∷ s) e = omega arith

    by : (t u : Bool) → eqb c 13 && eqb (get_or text 0 0) 10 ≡ u → (0 < length text → HasLine (lines_of text))
        → HasLine (cond t ([] ∷ lines_of text) (cond u (lines_of text) (onto c (lines_of text))))
    by true u e more = tt
    by false true e more = more (filled text e)
    by false false e more = onto-some c (lines_of text)

fault-behind : (at : ℕ) (lines : List (List ℕ)) → HasLine lines → fault_at at BadRecord ≡ behind_end at lines
fault-behind at [] s = absurd s
fault-behind at (line ∷ lines) s = refl

pub text-behind : (text : List ℕ) (at : ℕ) → 0 < length text → fault_at at BadRecord ≡ behind_end at (lines_of text)
text-behind text at h = fault-behind at (lines_of text) (some-lines text h)

pub nothing-behind : (text : List ℕ) (at : ℕ) → length text ≤ 0 → no_fault ≡ behind_end at (lines_of text)
unfolding lines_of
nothing-behind [] at h = refl
nothing-behind (c ∷ text) at h = absurd (omega arith)

-- what is left of a text behind its first line
pub tail : (l : List ℕ) (n : ℕ) → take (length l - n) (drop n l) ≡ drop n l
tail l n = take_all (length l - n) (drop n l) (simp length-drop (omega arith))

tail_length : (l : List ℕ) (n : ℕ) → length (take (length l - n) (drop n l)) ≡ length l - n
tail_length l n = rw (tail l n) (length-drop n l)

pub shorter : (text : List ℕ) (next : ℕ) → 0 < next → next ≤ length text → length (take (length text - next) (drop next text)) < length text
shorter text next h l = omega (arith, tail_length text next)

-- no more lines are counted than bytes passed
pub counted : (text : List ℕ) (at next n : ℕ) → 0 < next → next ≤ length text → at + length text ≤ n → at + 1 + length (take (length text - next) (drop next text)) ≤ n
counted text at next n h l e = omega (arith, tail_length text next)

-- what is left where a test for the other case failed
pub left_none : (f : Option Refusal) → ((why : Refusal) → f ≡ Some why → ⊥) → f ≡ None
left_none (Some why) h = absurd (h why refl)
left_none None h = refl

pub left_ok : (v : Verdict) → ((fault : Fault) → v ≡ Err fault → ⊥) → v ≡ no_fault
left_ok (Ok u) h = refl
left_ok (Err fault) h = absurd (h fault refl)

-- a loop that judges line by line: a line at fault, a sound end, a sound line, and no line left
pub line_faulty : (text : List ℕ) (size upper at end next : ℕ) (why : Refusal) (v : Verdict) → FirstLine text end next → line_fault size upper (take end text) ≡ Some why
    → judged size upper at (lines_of text) ≡ v → fault_at at why ≡ v
unfolding judged
line_faulty text size upper at end next why v f e h = rw (f.lines, e) at h

pub line-ends : (text rest : List ℕ) (size upper at end next : ℕ) (v : Verdict) → FirstLine text end next → rest ≡ take (length text - next) (drop next text)
    → line_fault size upper (take end text) ≡ None → is_end (take end text) ≡ true → judged size upper at (lines_of text) ≡ v → behind_end (at + 1) (lines_of rest) ≡ v
unfolding judged
line-ends text rest size upper at end next v f r e g h = rw (r, tail text next, add-one) (rw (f.lines, e, g) at h)

pub line-sound : (text rest : List ℕ) (size upper new at end next : ℕ) (v : Verdict) → FirstLine text end next → rest ≡ take (length text - next) (drop next text)
    → new ≡ upper_after upper (take end text) → line_fault size upper (take end text) ≡ None → is_end (take end text) ≡ false → judged size upper at (lines_of text) ≡ v
    → judged size new (at + 1) (lines_of rest) ≡ v
unfolding judged
line-sound text rest size upper new at end next v f r u e g h = rw (r, tail text next, u, add-one) (rw (f.lines, e, g) at h)

pub no_line : (text : List ℕ) (size upper at : ℕ) (v : Verdict) → length text ≤ 0 → judged size upper at (lines_of text) ≡ v → fault_at at BadRecord ≡ v
unfolding judged lines_of
no_line [] size upper at v h e = e
no_line (c ∷ text) size upper at v h e = absurd (omega arith)

-- no line of a sound text has a fault
abbrev told : Verdict → ℕ
told (Ok u) = 0
told (Err fault) = 1

pub all_sound : (lines : List (List ℕ)) (size upper at : ℕ) → judged size upper at lines ≡ no_fault → AllSound size upper lines
unfolding judged
all_sound [] size upper at e = tt
all_sound (line ∷ lines) size upper at e = by (line_fault size upper line) (is_end line) e (λ f. all_sound lines size (upper_after upper line) (suc at) f)
  where
    behind : (ls : List (List ℕ)) (at upper : ℕ) → behind_end at ls ≡ no_fault → AllSound size upper ls
    behind [] at upper e = tt
    behind (l ∷ ls) at upper e = absurd (zero_one (ap told (sym e)))

    by : (f : Option Refusal) (t : Bool) → of_line at f (cond t (behind_end (suc at) lines) (judged size (upper_after upper line) (suc at) lines)) ≡ no_fault
        → (judged size (upper_after upper line) (suc at) lines ≡ no_fault → AllSound size (upper_after upper line) lines) → (f ≡ None) × AllSound size (upper_after upper line) lines
    by (Some why) t e more = absurd (zero_one (ap told (sym e)))
    by None true e more = (refl, behind lines (suc at) (upper_after upper line) e)
    by None false e more = (refl, more e)

-- the line of the first fault, by the verdict
pub too_long-line : (text : List ℕ) (size : ℕ) → too_long size ≡ true → 0 ≡ fault_line text size
unfolding fault_line
too_long-line text size e = rw e refl

pub verdict-line : (text : List ℕ) (size at : ℕ) (v : Verdict) → too_long size ≡ false → v ≡ verdict_of text size → at ≡ line_in v → at ≡ fault_line text size
unfolding fault_line
verdict-line text size at v e f g = rw (e, ← f) g
