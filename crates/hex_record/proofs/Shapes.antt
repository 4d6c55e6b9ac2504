-- The types of records, and what a line comes to that has no fault. Assumes nothing.
use Rattle.std.specs.Prelude.{Option, Some, None}
use Rattle.refusal.specs.declared.Refusal.{Refusal}
use Rattle.std.proofs.Common.{◌≡◌, ℕ, ◌+◌, ◌-◌, ◌*◌, ◌<◌, ◌≤◌, Bool, true, false, not, ◌&&◌, eqb, ltb, leb, ◌≢◌, List, length, get_or, sym, refl, ap, ◌∙◌, arith, ltb-false, lt-ltb, eq-eqb, ne_eqb, eqb-true}
use Rattle.lists.specs.Each.{each}
use Rattle.lists.proofs.Each.{each_at}
use Rattle.lists.proofs.Bools.{both}
use Rattle.lists.proofs.Loops.{zero_one}
use Rattle.refusal.specs.First.{or_else, fault_if}
use Rattle.refusal.specs.declared.Refusal.TheVariants.{BadRecord, BadChecksum, PastChip}
use Rattle.lists.specs.Each.{total}
use Rattle.hex_record.specs.Digits.{digit_of, is_digit}
use Rattle.hex_record.specs.Record.{record_byte, count_of, offset_of, type_of, sum_of, well_formed, type_sound, shaped, is_data, address_of, past_chip, line_fault, upper_after}
use Rattle.hex_record.specs.Design.End.{end_line}
use Rattle.hex_record.specs.Design.There.{BytesThere}

-- the types, one after the other
pub of_type-zero : (kind count offset : ℕ) → kind ≡ 0 → leb (offset + count) 65536 ≡ type_sound kind count offset
unfolding type_sound
of_type-zero kind count offset e = rw (eq-eqb kind 0 e) refl

pub of_type-one : (kind count offset : ℕ) → kind ≢ 0 → kind ≡ 1 → eqb count 0 && eqb offset 0 ≡ type_sound kind count offset
unfolding type_sound
of_type-one kind count offset h e = rw (ne_eqb kind 0 h, eq-eqb kind 1 e) refl

pub of_type_four : (kind count offset : ℕ) → kind ≢ 0 → kind ≢ 1 → eqb kind 4 && eqb count 2 && eqb offset 0 ≡ type_sound kind count offset
unfolding type_sound
of_type_four kind count offset h g = rw (ne_eqb kind 0 h, ne_eqb kind 1 g) refl

-- the upper half behind a record of type 04, and behind any other
pub upper_here : (line : List ℕ) (upper kind high low : ℕ) → kind ≡ record_byte line 3 → kind ≡ 4 → high ≡ record_byte line 4 → low ≡ record_byte line 5
    → 256 * high + low ≡ upper_after upper line
unfolding upper_after
upper_here line upper kind high low e f g h = rw (eq-eqb _ _ (sym e ∙ f), g, h) refl

pub upper_stays : (line : List ℕ) (upper kind : ℕ) → kind ≡ record_byte line 3 → kind ≢ 4 → upper ≡ upper_after upper line
unfolding upper_after
upper_stays line upper kind e h = rw (ne_eqb _ _ (λ f. h (e ∙ f))) refl

-- a line that has a record's shape
pub record Shape (line : List ℕ) : Type 0 where
  pub colon : get_or line 0 0 ≡ 58
  pub long : length line ≡ 2 * count_of line + 11
  pub digits : (k : ℕ) → k < length line - 1 → is_digit (get_or line (k + 1) 0) ≡ true
  pub kind : type_sound (type_of line) (count_of line) (offset_of line) ≡ true

pub shape_of : (line : List ℕ) → shaped line ≡ true → Shape line
unfolding shaped
shape_of line e =
    let (formed, kind) = both (well_formed line) _ e in
    let (start, digits) = both (eqb (get_or line 0 0) 58 && eqb (length line) (2 * count_of line + 11)) _ formed in
    let (colon, long) = both (eqb (get_or line 0 0) 58) _ start in
    record {
      colon = eqb-true _ _ colon;
      long = eqb-true _ _ long;
      digits = each_at (λ k. is_digit (get_or line (k + 1) 0)) (length line - 1) digits;
      kind = kind;
    }

-- the bytes of such a line are all there
pub bytes-there : (line : List ℕ) → Shape line → BytesThere line (count_of line + 5)
bytes-there line s k h =
    let long = s.long in
    record {
      long = omega arith;
      high = s.digits (2 * k) (omega arith);
      low = ap (λ n. is_digit (get_or line n 0)) (omega arith) ∙ s.digits (2 * k + 1) (omega arith);
    }

-- a line's faults, in their order
pub end-sound : (line : List ℕ) (size upper : ℕ) → line ≡ end_line → None ≡ line_fault size upper line
unfolding line_fault shaped type_sound record_byte digit_of total each is_data
end-sound line size upper e = rw e refl

pub shape-fault : (line : List ℕ) (size upper : ℕ) → shaped line ≡ false → Some BadRecord ≡ line_fault size upper line
unfolding line_fault
shape-fault line size upper e = rw e refl

pub sum-fault : (line : List ℕ) (size upper s : ℕ) → shaped line ≡ true → s ≡ sum_of line → s ≢ 0 → Some BadChecksum ≡ line_fault size upper line
unfolding line_fault
sum-fault line size upper s e f h = rw (e, ne_eqb (sum_of line) 0 (λ g. h (f ∙ g))) refl

pub last-fault : (line : List ℕ) (size upper s : ℕ) → shaped line ≡ true → s ≡ sum_of line → s ≡ 0 → fault_if (past_chip size upper line) PastChip ≡ line_fault size upper line
unfolding line_fault
last-fault line size upper s e f h = rw (e, eq-eqb (sum_of line) 0 (sym f ∙ h)) refl

-- the last test, by the fields
pub past_by : (line : List ℕ) (size upper kind n at : ℕ) → kind ≡ type_of line → n ≡ count_of line → at ≡ offset_of line
    → eqb kind 0 && ltb 0 n && ltb size (65536 * upper + at + n) ≡ past_chip size upper line
unfolding is_data
past_by line size upper kind n at e f g = rw (e, f, g) refl

-- a line without a fault passes all three tests
abbrev told : Option Refusal → ℕ
told None = 0
told (Some why) = 1

passed : (a b c : Bool) → or_else (fault_if (not a) BadRecord) (or_else (fault_if (not b) BadChecksum) (fault_if c PastChip)) ≡ None → (a ≡ true) × (b ≡ true) × (c ≡ false)
passed true true false e = (refl, refl, refl)
passed true true true e = absurd (zero_one (ap told (sym e)))
passed true false c e = absurd (zero_one (ap told (sym e)))
passed false b c e = absurd (zero_one (ap told (sym e)))

pub record Sound (line : List ℕ) (size upper : ℕ) : Type 0 where
  pub shape : Shape line
  pub sum : sum_of line ≡ 0
  pub inside : past_chip size upper line ≡ false

pub sound-line : (line : List ℕ) (size upper : ℕ) → line_fault size upper line ≡ None → Sound line size upper
unfolding line_fault
sound-line line size upper e =
    let (shape, sum, inside) = passed (shaped line) (eqb (sum_of line) 0) (past_chip size upper line) e in
    record { shape = shape_of line shape; sum = eqb-true _ _ sum; inside = inside }

-- each data byte of such a line has its place in the chip
unfold_past : (t : Bool) (n size end : ℕ) → t ≡ true → t && ltb 0 n && ltb size end ≡ false → 0 < n → end ≤ size
unfold_past t n size end e f h = ltb-false size end (rw (e, lt-ltb 0 n h) at f)

pub data-inside : (line : List ℕ) (size upper : ℕ) → Sound line size upper → is_data line ≡ true → (k : ℕ) → k < count_of line → address_of upper line + k < size
data-inside line size upper s e k h =
    let fits : address_of upper line + count_of line ≤ size = unfold_past (is_data line) (count_of line) size (address_of upper line + count_of line) e s.inside (omega arith) in
    omega arith
