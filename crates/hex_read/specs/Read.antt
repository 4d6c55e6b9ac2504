-- What a text says of a chip: its bytes, or the first fault. Assumes nothing.
use Rattle.std.specs.Prelude.{ℕ, suc, cond, List, [], ◌∷◌, length, replicate, Option, Some, Result, Ok, Err, None}
use Rattle.refusal.specs.declared.Refusal.{Refusal}
use Rattle.refusal.specs.declared.Refusal.TheVariants.{OutOfDomain, BadRecord}
use Rattle.laid_bytes.specs.Laid.{laid}
use Rattle.hex_base.specs.Size.{too_long}
use Rattle.hex_record.specs.Record.{data_of, is_data, is_end, address_of, line_fault, upper_after}
use Rattle.hex_read.specs.Lines.{lines_of}
use Rattle.hex_read.specs.declared.judge.Fault.{Fault}

-- what a text comes to: it is sound, or its first fault and the line that has it, from 1
abbrev pub Verdict : Type 0
Verdict = Result (Unit {0}) Fault

abbrev pub no_fault : Verdict
no_fault = Ok tt

abbrev pub fault_at : ℕ → Refusal → Verdict
fault_at at why = Err (record { line = at; why = why })

-- a line that has a fault answers, else what comes behind it
abbrev pub of_line : ℕ → Option Refusal → Verdict → Verdict
of_line at (Some why) rest = fault_at at why
of_line at None rest = rest

-- 02 Slip 1 10: a line behind a sound end record has a fault of shape, whatever it holds
abbrev pub behind_end : ℕ → List (List ℕ) → Verdict
behind_end at [] = no_fault
behind_end at (line ∷ lines) = fault_at at BadRecord

-- the first fault of a text's lines, the first of them line number `at`, with the upper half of addresses that holds there
-- 02 Slip 1 12: a text whose lines are all sound and that has no end is refused for the line that is missing
unfoldable pub judged : ℕ → ℕ → ℕ → List (List ℕ) → Verdict
judged size upper at [] = fault_at at BadRecord
judged size upper at (line ∷ lines) =
    of_line at (line_fault size upper line)
    (cond (is_end line) (behind_end (suc at) lines) (judged size (upper_after upper line) (suc at) lines))

-- a chip with the data of a sound record in it
abbrev pub stored_by : ℕ → List ℕ → List ℕ → List ℕ
stored_by upper line chip = cond (is_data line) (laid chip (address_of upper line) (data_of line)) chip

-- 02 Slip 1 2: records are stored in the order of their lines, so that each goes over those before it
unfoldable pub stored : ℕ → List (List ℕ) → List ℕ → List ℕ
stored upper [] chip = chip
stored upper (line ∷ lines) chip = stored (upper_after upper line) lines (stored_by upper line chip)

-- 02 Slip 1 2: each byte is hex FF until a record says it
abbrev pub blank : ℕ → List ℕ
blank size = replicate size 255

-- what a read answers, and what the lent chip holds then
pub record Read : Type 0 where
  pub answer : Result (Unit {0}) Refusal
  pub chip : List ℕ

abbrev pub read_as : Result (Unit {0}) Refusal → List ℕ → Read
read_as a chip = record { answer = a; chip = chip }

-- the text's verdict on a chip of so many bytes
abbrev pub verdict_of : List ℕ → ℕ → Verdict
verdict_of text size = judged size 0 1 (lines_of text)

-- 02 Slip 1 11: a refused read leaves the chip as it was lent
abbrev pub read_by : Verdict → List ℕ → List ℕ → Read
read_by (Ok u) text chip = read_as (Ok tt) (stored 0 (lines_of text) (blank (length chip)))
read_by (Err fault) text chip = read_as (Err fault.why) chip

-- 02 Slip 1 6: the lent slice is the chip, and one that is too long is refused by 1 before the text is looked at
unfoldable pub read_of : List ℕ → List ℕ → Read
read_of text chip = cond (too_long (length chip)) (read_as (Err OutOfDomain) chip) (read_by (verdict_of text (length chip)) text chip)

-- the line of the first record at fault, from 1; 0 where none is, and where the chip is too long for any to be read
abbrev pub line_in : Verdict → ℕ
line_in (Ok u) = 0
line_in (Err fault) = fault.line

unfoldable pub fault_line : List ℕ → ℕ → ℕ
fault_line text size = cond (too_long size) 0 (line_in (verdict_of text size))
