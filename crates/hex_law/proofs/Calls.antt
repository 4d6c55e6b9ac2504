-- A chip comes back through the two calls that a C caller makes. Assumes nothing.
use mathlib.Core.Path.{◌≡◌, ap}
use mathlib.Core.List.{List}
use Prim.Native.Nat.{ℕ, ◌*◌, ◌^◌, ◌≤◌, ◌<◌}
use native.Mathlib.Omega.{arith}
use lib.ListN.{length, take}
use borrow.Author.Tests.{lt-ltb, le-ltb}
use Rattle.hex_read.specs.Read.{read_of}
use Rattle.hex_write.specs.Text.{hex_text}
use Rattle.hex_write.specs.Length.{text_length}
use Rattle.hex_write.specs.Write.{write_of}
use Rattle.hex_write.proofs.Length.{length_law}
use Rattle.calls.specs.Packed.{packed_code}
use Rattle.calls.specs.Calls.{returned}
use Rattle.calls.specs.Hex.{hex_read_result, read_hex_call, write_hex_call}
use Rattle.hex_law.specs.RoundTrip.{Bytes, CallsRoundTrip}
use Rattle.hex_law.proofs.RoundTrip.{hex_round_trip}

small : (n : ℕ) → n ≤ 2 ^ 24 → text_length n < 2 ^ 48
small n h = omega arith

module _ (chip text : List ℕ) (fits : length chip ≤ 2 ^ 24) (room : text_length (length chip) ≤ length text) where
  length_back : (write_hex_call chip text).result ≡ text_length (length chip)
  unfolding write_of packed_code
  length_back =
      let e = length_law chip in
      let s = small (length chip) fits in
      rw (le-ltb (2 ^ 24) (length chip) fits, le-ltb (length text) (length (hex_text chip)) (omega arith)) (omega arith)

  comes_back : (buffer : List ℕ) → Bytes chip → length buffer ≡ length chip
      → read_hex_call (take (text_length (length chip)) (write_hex_call chip text).buffer) buffer ≡ returned 0 chip
  unfolding packed_code
  comes_back buffer bytes e =
      let l = length_law chip in
      ap hex_read_result (rw l at (hex_round_trip.through chip text buffer bytes fits (omega arith) e))

write_refused : (chip text : List ℕ) → 2 ^ 24 < length chip → write_hex_call chip text ≡ returned (1 * 2 ^ 48) text
unfolding write_of packed_code
write_refused chip text h = rw (lt-ltb (2 ^ 24) (length chip) h)

read-refused : (text chip : List ℕ) → 2 ^ 24 < length chip → read_hex_call text chip ≡ returned (1 * 2 ^ 48) chip
unfolding read_of packed_code
read-refused text chip h = rw (lt-ltb (2 ^ 24) (length chip) h)

pub calls_round_trip : CallsRoundTrip
calls_round_trip = record {
  length_back = λ chip text fits room. length_back chip text (omega arith) (omega arith);
  length-small = small;
  back = λ chip text buffer bytes fits room e. comes_back chip text (omega arith) (omega arith) buffer bytes e;
  write_refused = write_refused;
  read-refused = read-refused;
}
