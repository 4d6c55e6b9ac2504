-- What a caller gets of a read and of a write of Intel HEX: the answer as one number, and the lent buffer. Assumes nothing.
use Rattle.std.specs.Prelude.{ℕ, ◌/◌, ◌%◌, ◌^◌, ◌≡◌, List}
use Rattle.refusal.specs.Refusal.{write_code}
use Rattle.hex_read.specs.Read.{Read, read_of}
use Rattle.hex_write.specs.Write.{Wrote, write_of}
use Rattle.calls.specs.Packed.{result_of, write_result_of}
use Rattle.calls.specs.Calls.{Returned, returned}
use Rattle.calls.specs.Law.{Unpacks}

abbrev pub hex_read_result : Read → Returned
hex_read_result x = returned (result_of x.answer) x.chip

abbrev pub hex_write_result : Wrote → Returned
hex_write_result x = returned (write_result_of x.answer) x.text

-- `onerom_read_hex` of a text and a lent chip
abbrev pub read_hex_call : List ℕ → List ℕ → Returned
read_hex_call text chip = hex_read_result (read_of text chip)

-- `onerom_write_hex` of a chip and a lent text
abbrev pub write_hex_call : List ℕ → List ℕ → Returned
write_hex_call chip text = hex_write_result (write_of chip text)

-- number and place, or the length that is written, come out of the one number
pub record HexUnpacks : Type 0 where
  pub read : (text chip : List ℕ) → Unpacks (read_of text chip).answer
  pub number : (chip text : List ℕ) → (write_hex_call chip text).result / 2 ^ 48 ≡ (write_code (write_of chip text).answer).number
  pub place : (chip text : List ℕ) → (write_hex_call chip text).result % 2 ^ 48 ≡ (write_code (write_of chip text).answer).place
