-- The text of a chip's bytes. Assumes nothing.
use Rattle.std.specs.Prelude.{ℕ, ◌+◌, ◌*◌, ◌/◌, ◌%◌, ◌&&◌, cond, List, [], ◌∷◌, ◌++◌, eqb, ltb, length, take, drop}
use Rattle.lists.specs.Tab.{joined}
use Rattle.hex_base.specs.Sum.{checksum_of}

-- 02 Slip 1 3: ten to fifteen are capitals
abbrev pub digit_for : ℕ → ℕ
digit_for v = cond (ltb v 10) (v + 48) (v + 55)

-- two digits a byte, the high one first
abbrev pub hex_byte : ℕ → List ℕ
hex_byte b = digit_for (b / 16) ∷ digit_for (b % 16) ∷ []

unfoldable pub hex_bytes : List ℕ → List ℕ
hex_bytes [] = []
hex_bytes (b ∷ bytes) = hex_byte b ++ hex_bytes bytes

-- a record of these bytes: a colon, them and their checksum, and LF
unfoldable pub record_text : List ℕ → List ℕ
record_text bytes = 58 ∷ (hex_bytes bytes ++ (hex_byte (checksum_of bytes) ++ (10 ∷ [])))

-- 02 Slip 1 3: a data record takes the next 16 bytes, and the last one what there is
abbrev pub chunk : List ℕ → ℕ → List ℕ
chunk chip k = take 16 (drop (16 * k) chip)

-- the bytes of data record k: their count, their offset in the block of 64 KiB, type 00, and the data
abbrev pub data_bytes : List ℕ → ℕ → List ℕ
data_bytes chip k = length (chunk chip k) ∷ 16 * k / 256 % 256 ∷ 16 * k % 256 ∷ 0 ∷ chunk chip k

-- the bytes of a type 04 record: two data bytes at address 0000, which are the block's number, the high byte first
abbrev pub block_bytes : ℕ → List ℕ
block_bytes block = 2 ∷ 0 ∷ 0 ∷ 4 ∷ block / 256 ∷ block % 256 ∷ []

-- 02 Slip 1 3: where a data record begins another block of 64 KiB, its upper half is said ahead of it
abbrev pub ahead : ℕ → List ℕ
ahead k = cond (ltb 0 k && eqb (k % 4096) 0) (record_text (block_bytes (k / 4096))) []

abbrev pub records : ℕ → ℕ
records size = (size + 15) / 16

-- 02 Slip 1 4: `:00000001FF` and LF
abbrev pub end_text : List ℕ
end_text = 58 ∷ 48 ∷ 48 ∷ 48 ∷ 48 ∷ 48 ∷ 48 ∷ 48 ∷ 49 ∷ 70 ∷ 70 ∷ 10 ∷ []

abbrev pub piece_text : List ℕ → ℕ → List ℕ
piece_text chip k = ahead k ++ record_text (data_bytes chip k)

-- the text without its end
abbrev pub pieces : List ℕ → List ℕ
pieces chip = joined (records (length chip)) (piece_text chip)

unfoldable pub hex_text : List ℕ → List ℕ
hex_text chip = pieces chip ++ end_text
