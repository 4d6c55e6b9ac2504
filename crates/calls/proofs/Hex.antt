-- What reading and writing Intel HEX answer fits into the one number. Assumes nothing.
use Rattle.std.specs.Prelude.{Ok, Err}
use mathlib.Core.Path.{◌≡◌, refl}
use mathlib.Core.Bool.{Bool, true, false, not, cond}
use mathlib.Core.List.{List, [], ◌∷◌}
use Prim.Native.Nat.{ℕ, suc, ◌^◌, ◌<◌}
use native.Mathlib.Omega.{arith}
use lib.Dec.{eqb}
use lib.ListN.{length}
use borrow.Author.Tests.{ltb-false}
use Rattle.refusal.specs.First.{or_else, fault_if}
use Rattle.refusal.specs.Refusal.{place_of, answer_code, write_code}
use Rattle.refusal.specs.declared.Refusal.TheVariants.{OutOfDomain, BadRecord, BadChecksum, PastChip}
use Rattle.hex_base.specs.Size.{too_long}
use Rattle.hex_record.specs.Record.{sum_of, shaped, is_end, past_chip, line_fault, upper_after}
use Rattle.hex_read.specs.Lines.{lines_of}
use Rattle.hex_read.specs.Read.{Verdict, of_line, behind_end, judged, read_as, read_by, verdict_of, read_of}
use Rattle.hex_write.specs.Text.{hex_text}
use Rattle.hex_write.specs.Write.{wrote_as, written, write_of}
use Rattle.hex_write.proofs.Length.{length_law}
use Rattle.calls.specs.Hex.{HexUnpacks}
use Rattle.calls.proofs.Law.{done_alone}
use Rattle.calls.proofs.Unpacked.{number-back, place-back, written_small}

-- a verdict's refusal has a place of 48 bits: 26, 27 and 28 have none
abbrev Small : Verdict → Type 0
Small (Ok u) = Unit
Small (Err fault) = place_of fault.why < 2 ^ 48

line_small : (at : ℕ) (a b c : Bool) (rest : Verdict) → Small rest
    → Small (of_line at (or_else (fault_if (not a) BadRecord) (or_else (fault_if (not b) BadChecksum) (fault_if c PastChip))) rest)
line_small at false b c rest h = omega arith
line_small at true false c rest h = omega arith
line_small at true true true rest h = omega arith
line_small at true true false rest h = h

behind-small : (at : ℕ) (t : Bool) (lines : List (List ℕ)) (rest : Verdict) → Small rest → Small (cond t (behind_end at lines) rest)
behind-small at true [] rest h = tt
behind-small at true (line ∷ lines) rest h = omega arith
behind-small at false lines rest h = h

judged-small : (size upper at : ℕ) (lines : List (List ℕ)) → Small (judged size upper at lines)
unfolding judged line_fault
judged-small size upper at [] = omega arith
judged-small size upper at (line ∷ lines) =
    line_small at (shaped line) (eqb (sum_of line) 0) (past_chip size upper line) _
    (behind-small (suc at) (is_end line) lines _ (judged-small size (upper_after upper line) (suc at) lines))

read_small : (text chip : List ℕ) → (answer_code (read_of text chip).answer).place < 2 ^ 48
unfolding read_of
read_small text chip = by (too_long (length chip)) (verdict_of text (length chip)) (judged-small (length chip) 0 1 (lines_of text))
  where
    by : (t : Bool) (v : Verdict) → Small v → (answer_code (cond t (read_as (Err OutOfDomain) chip) (read_by v text chip)).answer).place < 2 ^ 48
    by true v h = omega arith
    by false (Ok u) h = omega arith
    by false (Err fault) h = h

-- a text's length is far below 2^48
write_small : (chip text : List ℕ) → (write_code (write_of chip text).answer).place < 2 ^ 48
unfolding write_of
write_small chip text = by (too_long (length chip)) refl
  where
    by : (t : Bool) → too_long (length chip) ≡ t → (write_code (cond t (wrote_as (Err OutOfDomain) text) (written (hex_text chip) text)).answer).place < 2 ^ 48
    by true e = omega arith
    by false e = written_small (hex_text chip) text (omega (arith, length_law chip, ltb-false (2 ^ 24) (length chip) e))

pub hex_unpacks : HexUnpacks
hex_unpacks = record {
  read = λ text chip. record { number = number-back _; place = place-back _ (read_small text chip); done = done_alone _ };
  number = λ chip text. number-back _;
  place = λ chip text. place-back _ (write_small chip text);
}
