-- Which fault of a line answers. Assumes nothing.
use Rattle.std.specs.Prelude.{Option, Some, None}
use Rattle.refusal.specs.declared.Refusal.{Refusal}
use mathlib.Core.Path.{◌≡◌, refl, sym, ◌∙◌, ap}
use mathlib.Core.Bool.{Bool, true, false, not, ◌&&◌}
use mathlib.Core.List.{List}
use Prim.Native.Nat.{ℕ, ◌+◌, ◌-◌, ◌<◌, ◌≤◌}
use native.Mathlib.Omega.{arith}
use lib.Dec.{eqb, ltb}
use borrow.Author.Tests.{lt-ltb, ltb-true}
use Rattle.lists.proofs.Bools.{both}
use Rattle.lists.proofs.Loops.{zero_one}
use Rattle.refusal.specs.First.{or_else, fault_if}
use Rattle.refusal.specs.Refusal.{number_of}
use Rattle.refusal.specs.declared.Refusal.TheVariants.{BadRecord, BadChecksum, PastChip}
use Rattle.hex_record.specs.Record.{count_of, sum_of, shaped, is_data, address_of, past_chip, line_fault}
use Rattle.hex_record.proofs.Shapes.{shape-fault, sum-fault, last-fault}
use Rattle.hex_law.specs.Faults.{BytePast, FaultLaw}

module _ (size upper : ℕ) (line : List ℕ) where
  is_past : BytePast size upper line → past_chip size upper line ≡ true
  is_past b = rw (b.has_data, lt-ltb 0 (count_of line) (omega (arith, b.within)), lt-ltb size (address_of upper line + count_of line) (omega (arith, b.within, b.past))) refl

  byte_past : past_chip size upper line ≡ true → BytePast size upper line
  byte_past e =
      let (some, far) = both (is_data line && ltb 0 (count_of line)) _ e in
      let (named, filled) = both (is_data line) _ some in
      let n : 0 < count_of line = ltb-true 0 (count_of line) filled in
      let f : size < address_of upper line + count_of line = ltb-true size (address_of upper line + count_of line) far in
      record { has_data = named; at = count_of line - 1; within = omega arith; past = omega arith }

-- the numbers tell the faults apart
abbrev told : Option Refusal → ℕ
told None = 0
told (Some why) = number_of why

only-past : (a b c : Bool) → or_else (fault_if (not a) BadRecord) (or_else (fault_if (not b) BadChecksum) (fault_if c PastChip)) ≡ Some PastChip → c ≡ true
only-past true true true e = refl
only-past true true false e = absurd (omega (arith, ap told e))
only-past true false c e = absurd (omega (arith, ap told e))
only-past false b c e = absurd (omega (arith, ap told e))

pub fault_law : (size upper : ℕ) (line : List ℕ) → FaultLaw size upper line
unfolding line_fault
fault_law size upper line = record {
  shape = λ e. sym (shape-fault line size upper e);
  sum = λ e h. sym (sum-fault line size upper (sum_of line) e refl h);
  past = λ e f b. sym (last-fault line size upper (sum_of line) e refl f) ∙ rw (is_past size upper line b) refl;
  is_past = λ e. byte_past size upper line (only-past (shaped line) (eqb (sum_of line) 0) (past_chip size upper line) e);
}
