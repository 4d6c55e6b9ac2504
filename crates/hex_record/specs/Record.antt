-- What a line says that is a record, and what it is refused for. A line here has no line end. Assumes nothing.
use Rattle.refusal.specs.declared.Refusal.{Refusal}
use Rattle.std.specs.Prelude.{ℕ, ◌+◌, ◌-◌, ◌*◌, ◌%◌, Bool, cond, not, ◌&&◌, List, length, ◌==◌, nat_le, nat_lt, slice_index, Option}
use Rattle.lists.specs.Each.{each}
use Rattle.lists.specs.Tab.{tab}
use Rattle.refusal.specs.First.{or_else, fault_if}
use Rattle.refusal.specs.declared.Refusal.TheVariants.{BadRecord, BadChecksum, PastChip}
use Rattle.lists.specs.Each.{total}
use Rattle.hex_record.specs.Digits.{digit_of, is_digit}

-- byte k of a record: behind the colon two digits a byte, the high one first
unfoldable pub record_byte : List ℕ → ℕ → ℕ
record_byte line k = 16 * digit_of (slice_index line (2 * k + 1)) + digit_of (slice_index line (2 * k + 2))

-- the bytes of a record in their order: how many data bytes it has, two for their offset, its type, the data, and the checksum
abbrev pub count_of : List ℕ → ℕ
count_of line = record_byte line 0

abbrev pub offset_of : List ℕ → ℕ
offset_of line = 256 * record_byte line 1 + record_byte line 2

abbrev pub type_of : List ℕ → ℕ
type_of line = record_byte line 3

abbrev pub data_byte : List ℕ → ℕ → ℕ
data_byte line k = record_byte line (k + 4)

abbrev pub data_of : List ℕ → List ℕ
data_of line = tab (count_of line) (data_byte line)

-- 02 Slip 1 5: what a record's bytes come to, its checksum the last of them
abbrev pub sum_of : List ℕ → ℕ
sum_of line = total (count_of line + 5) (record_byte line) % 256

-- a colon, and then nothing but digits, as many as the count asks for
abbrev pub well_formed : List ℕ → Bool
well_formed line = slice_index line 0 == 58 && length line == 2 * count_of line + 11 && each (length line - 1) (λ k. is_digit (slice_index line (k + 1)))

-- 02 Slip 1 2: a record is data, the end, or the upper half of addresses: 00, 01 or 04
-- 02 Slip 1 10: data stay in their block of 64 KiB
-- 02 Slip 1 7: the end has no data bytes and the upper half has two, and neither has an offset
unfoldable pub type_sound : ℕ → ℕ → ℕ → Bool
type_sound kind count offset =
    cond (kind == 0) (nat_le (offset + count) 65536) (cond (kind == 1) (count == 0 && offset == 0) (kind == 4 && count == 2 && offset == 0))

unfoldable pub shaped : List ℕ → Bool
shaped line = well_formed line && type_sound (type_of line) (count_of line) (offset_of line)

-- what a sound record is by its type
unfoldable pub is_data : List ℕ → Bool
is_data line = type_of line == 0

unfoldable pub is_end : List ℕ → Bool
is_end line = type_of line == 1

-- the address of a record's first data byte: the upper half is what type 04 said last
abbrev pub address_of : ℕ → List ℕ → ℕ
address_of upper line = 65536 * upper + offset_of line

-- some data byte stands at an address past a chip of so many bytes
abbrev pub past_chip : ℕ → ℕ → List ℕ → Bool
past_chip size upper line = is_data line && nat_lt 0 (count_of line) && nat_lt size (address_of upper line + count_of line)

-- 02 Slip 1 12: a line's first fault, where its shape comes before its sum, and its sum before the places of its data
unfoldable pub line_fault : ℕ → ℕ → List ℕ → Option Refusal
line_fault size upper line =
    or_else (fault_if (not (shaped line)) BadRecord)
    (or_else (fault_if (not (sum_of line == 0)) BadChecksum) (fault_if (past_chip size upper line) PastChip))

-- the upper half of addresses behind a sound record
-- 02 Slip 1 7: the first data byte of type 04 is the high one
unfoldable pub upper_after : ℕ → List ℕ → ℕ
upper_after upper line = cond (type_of line == 4) (256 * data_byte line 0 + data_byte line 1) upper
