-- A chip through its own text and back. Assumes nothing.
use Rattle.std.specs.Prelude.{ℕ, ◌*◌, ◌^◌, ◌<◌, ◌≤◌, ◌≡◌, List, length, get_or, take, Ok}
use Rattle.hex_read.specs.Read.{read_as, read_of}
use Rattle.hex_write.specs.Text.{hex_text}
use Rattle.hex_write.specs.Length.{text_length}
use Rattle.hex_write.specs.Write.{write_of}
use Rattle.calls.specs.Calls.{returned}
use Rattle.calls.specs.Hex.{read_hex_call, write_hex_call}

-- the numbers in a list are bytes
abbrev pub Bytes : List ℕ → Type 0
Bytes l = (k : ℕ) → get_or l k 0 < 256

pub record HexRoundTrip : Type 0 where
  -- 02 Slip 1 6: what is read of a chip's own text is the chip, whatever stood where it is read to
  pub back : (chip buffer : List ℕ) → Bytes chip → length chip ≤ 2 ^ 24 → length buffer ≡ length chip → read_of (hex_text chip) buffer ≡ read_as (Ok tt) chip
  -- so through the two calls: what a write leaves in a buffer that has room, read by its length
  pub through : (chip text buffer : List ℕ) → Bytes chip → length chip ≤ 2 ^ 24 → length (hex_text chip) ≤ length text → length buffer ≡ length chip
      → read_of (take (length (hex_text chip)) (write_of chip text).text) buffer ≡ read_as (Ok tt) chip

-- the same of what C callers get
pub record CallsRoundTrip : Type 0 where
  -- 02 Slip 1 8: a write that has room returns the text's length, which is so small that the number above it is 0
  pub length_back : (chip text : List ℕ) → length chip ≤ 2 ^ 24 → text_length (length chip) ≤ length text → (write_hex_call chip text).result ≡ text_length (length chip)
  pub length-small : (size : ℕ) → size ≤ 2 ^ 24 → text_length size < 2 ^ 48
  -- 02 Slip 1 6: a caller who reads as much of the text as the write returned has the chip again
  pub back : (chip text buffer : List ℕ) → Bytes chip → length chip ≤ 2 ^ 24 → text_length (length chip) ≤ length text → length buffer ≡ length chip
      → read_hex_call (take (text_length (length chip)) (write_hex_call chip text).buffer) buffer ≡ returned 0 chip
  -- 02 Slip 1 6: a slice of more bytes is refused by 1 in both calls, and what was lent to be written to stays
  pub write_refused : (chip text : List ℕ) → 2 ^ 24 < length chip → write_hex_call chip text ≡ returned (1 * 2 ^ 48) text
  pub read-refused : (text chip : List ℕ) → 2 ^ 24 < length chip → read_hex_call text chip ≡ returned (1 * 2 ^ 48) chip
