-- What a record that was written comes to when it is read. Assumes nothing.
use Rattle.std.specs.Prelude.{None}
use mathlib.Core.Path.{◌≡◌, refl, sym, ◌∙◌}
use mathlib.Core.Bool.{true, false}
use mathlib.Core.List.{List, [], ◌∷◌, ◌++◌, append_assoc}
use Prim.Native.Nat.{ℕ, zero, suc, ◌+◌, ◌-◌, ◌*◌, ◌<◌}
use native.Mathlib.Numerals.{add-one}
use native.Mathlib.Omega.{arith}
use lib.ListN.{length, get_or, length-append, get_or-append}
use lib.Seq.{get_or-append_seam}
use borrow.Author.Tests.{eq-eqb}
use Rattle.lists.proofs.Each.{each_all}
use Rattle.lists.specs.Each.{total}
use Rattle.hex_base.specs.Sum.{checksum_of}
use Rattle.hex_base.proofs.Sums.{checksum_law}
use Rattle.hex_record.specs.Digits.{is_digit}
use Rattle.hex_record.specs.Record.{record_byte, count_of, sum_of, type_sound, shaped, past_chip, line_fault}
use Rattle.hex_record.proofs.Shapes.{Shape, last-fault}
use Rattle.hex_read.specs.Lines.{lines_of}
use Rattle.hex_write.specs.Text.{hex_byte, hex_bytes, record_text}
use Rattle.hex_write.proofs.Records.{hex_length}
use Rattle.hex_law.specs.RoundTrip.{Bytes}
use Rattle.hex_law.proofs.Digits.{bytes-none, bytes_cons, bytes-append, line_of, byte-back, all_digits, line-back}

-- a record's line: its bytes and their checksum; the text has LF behind it
abbrev pub summed : List ℕ → List ℕ
summed b = b ++ (checksum_of b ∷ [])

abbrev pub record_line : List ℕ → List ℕ
record_line b = line_of (summed b)

summed_bytes : (b : List ℕ) → Bytes b → Bytes (summed b)
summed_bytes b h = bytes-append b (checksum_of b ∷ []) h (bytes_cons (checksum_of b) [] (checksum_law b).byte bytes-none)

digits_behind : (b : List ℕ) (x : ℕ) (rest : List ℕ) → hex_bytes b ++ (hex_byte x ++ rest) ≡ hex_bytes (b ++ (x ∷ [])) ++ rest
unfolding hex_bytes
digits_behind [] x rest = refl
digits_behind (y ∷ b) x rest = rw (digits_behind b x rest)

pub record-line : (b rest : List ℕ) → Bytes b → lines_of (record_text b ++ rest) ≡ record_line b ∷ lines_of rest
unfolding record_text
record-line b rest h =
    rw (append_assoc (hex_bytes b) (hex_byte (checksum_of b) ++ (10 ∷ [])) rest, digits_behind b (checksum_of b) (10 ∷ rest))
    (line-back (summed b) rest (summed_bytes b h))

-- a line that has a record's shape passes for one
shape_is : (line : List ℕ) → Shape line → shaped line ≡ true
unfolding shaped
shape_is line s = rw (
  eq-eqb (get_or line 0 0) 58 s.colon,
  eq-eqb (length line) (2 * count_of line + 11) s.long,
  each_all (λ k. is_digit (get_or line (k + 1) 0)) (length line - 1) s.digits,
  s.kind,
)

total_cong : (f g : ℕ → ℕ) (n : ℕ) → ((k : ℕ) → k < n → f k ≡ g k) → total n f ≡ total n g
unfolding total
total_cong f g zero h = refl
total_cong f g (suc n) h = rw (total_cong f g n (λ k l. h k (omega arith)), h n (omega arith))

-- bytes that make a record: their count is right, and so is what their type asks for
pub record Sayable (b : List ℕ) : Type 0 where
  pub bytes : Bytes b
  pub long : length b ≡ get_or b 0 0 + 4
  pub kind : type_sound (get_or b 3 0) (get_or b 0 0) (256 * get_or b 1 0 + get_or b 2 0) ≡ true

module _ (b : List ℕ) (s : Sayable b) where
  pub byte_is : (k : ℕ) → k < length b → record_byte (record_line b) k ≡ get_or b k 0
  byte_is k h =
      byte-back (summed b) (summed_bytes b s.bytes) k (simp length-append (omega arith)) ∙ get_or-append b (checksum_of b ∷ []) 0 k h

  checksum_is : record_byte (record_line b) (length b) ≡ checksum_of b
  checksum_is =
      byte-back (summed b) (summed_bytes b s.bytes) (length b) (simp length-append (omega arith)) ∙ get_or-append_seam b (checksum_of b) [] 0

  has_shape : Shape (record_line b)
  has_shape =
      let long = s.long in
      let count : count_of (record_line b) ≡ get_or b 0 0 = byte_is 0 (omega arith) in
      record {
        colon = refl;
        long = omega (arith, hex_length (summed b), length-append b (checksum_of b ∷ []));
        digits = λ k h. rw (add-one k) (all_digits (summed b) (summed_bytes b s.bytes) k (omega arith));
        kind = rw (byte_is 0 (omega arith), byte_is 1 (omega arith), byte_is 2 (omega arith), byte_is 3 (omega arith)) s.kind;
      }

  sum-zero : sum_of (record_line b) ≡ 0
  unfolding total
  sum-zero =
      let long = s.long in
      let count : count_of (record_line b) ≡ get_or b 0 0 = byte_is 0 (omega arith) in
      let all : count_of (record_line b) + 5 ≡ suc (length b) = omega arith in
      rw (all, total_cong (record_byte (record_line b)) (λ k. get_or b k 0) (length b) byte_is, checksum_is) (checksum_law b).sound

  -- such a record has no fault but one: it may reach past the chip
  pub reads : (size upper : ℕ) → past_chip size upper (record_line b) ≡ false → line_fault size upper (record_line b) ≡ None
  reads size upper e = sym (rw e at (last-fault (record_line b) size upper (sum_of (record_line b)) (shape_is (record_line b) has_shape) refl sum-zero))
