-- The number and the place of each refusal, in the order of document 01's table. Rows without a name there have one here.
-- Assumes nothing.
use Rattle.std.specs.Prelude.{ℕ, ◌+◌, ◌*◌, ◌^◌, Result, Ok, Err}
use Rattle.refusal.specs.declared.Refusal.{Refusal}
use Rattle.refusal.specs.declared.Refusal.TheVariants.{
  OutOfDomain,
  NoSelectLine,
  UnmappedPin,
  MissingXPin,
  MissingAddrPinGpios,
  RomTooLargeNoCsConfig,
  NonContiguousSelect,
  InteriorIgnoredLine,
  NoValidLayout,
  IncompatiblePinCount,
  RomTableTooLarge,
  InvalidConfig,
  BadPosition,
  MissingImageData,
  ShortImageData,
  ShortBuffer,
  WrongSize,
  UnknownSlotType,
  MissingLayout,
  UnknownAlgorithm,
  BadLayout,
  XPin,
  Inconsistent,
  Unserved,
  NoActiveLine,
  BadRecord,
  BadChecksum,
  PastChip,
}

-- 01 Numbers 1: a refusal has the number of its row in the table
-- 01 Shape 9: rows 1, 13, 15, 16 and 25, which have no name in the table, are refusals like the others
-- 02 Slip 1 11: what document 02 adds stands in rows behind these, without places
abbrev pub number_of : Refusal → ℕ
number_of OutOfDomain = 1
number_of NoSelectLine = 2
number_of (UnmappedPin pin) = 3
number_of (MissingXPin x) = 4
number_of MissingAddrPinGpios = 5
number_of RomTooLargeNoCsConfig = 6
number_of (NonContiguousSelect gpios) = 7
number_of (InteriorIgnoredLine gpio) = 8
number_of NoValidLayout = 9
number_of IncompatiblePinCount = 10
number_of RomTableTooLarge = 11
number_of InvalidConfig = 12
number_of BadPosition = 13
number_of (MissingImageData chip) = 14
number_of (ShortImageData chip) = 15
number_of ShortBuffer = 16
number_of WrongSize = 17
number_of UnknownSlotType = 18
number_of MissingLayout = 19
number_of UnknownAlgorithm = 20
number_of BadLayout = 21
number_of (XPin x) = 22
number_of (Inconsistent rom addr) = 23
number_of (Unserved rom addr) = 24
number_of NoActiveLine = 25
number_of BadRecord = 26
number_of BadChecksum = 27
number_of PastChip = 28

-- 01 Numbers 1: the place is what the row of the table names, or 0. A GPIO list is its set's 48 bits; a ROM and an
-- address are the address in the low 32 bits with the ROM above it
abbrev pub place_of : Refusal → ℕ
place_of OutOfDomain = 0
place_of NoSelectLine = 0
place_of (UnmappedPin pin) = pin
place_of (MissingXPin x) = x
place_of MissingAddrPinGpios = 0
place_of RomTooLargeNoCsConfig = 0
place_of (NonContiguousSelect gpios) = gpios.bits
place_of (InteriorIgnoredLine gpio) = gpio
place_of NoValidLayout = 0
place_of IncompatiblePinCount = 0
place_of RomTableTooLarge = 0
place_of InvalidConfig = 0
place_of BadPosition = 0
place_of (MissingImageData chip) = chip
place_of (ShortImageData chip) = chip
place_of ShortBuffer = 0
place_of WrongSize = 0
place_of UnknownSlotType = 0
place_of MissingLayout = 0
place_of UnknownAlgorithm = 0
place_of BadLayout = 0
place_of (XPin x) = x
place_of (Inconsistent rom addr) = rom * 2 ^ 32 + addr
place_of (Unserved rom addr) = rom * 2 ^ 32 + addr
place_of NoActiveLine = 0
place_of BadRecord = 0
place_of BadChecksum = 0
place_of PastChip = 0

-- what a caller gets of any answer: a number, and a place with it
pub record Code : Type 0 where
  pub number : ℕ
  pub place : ℕ

-- 01 Numbers 1: a call that succeeds has number 0, and one that is refused the refusal's number and place
abbrev pub success : Code
success = record { number = 0; place = 0 }

abbrev pub refusal_code : Refusal → Code
refusal_code why = record { number = number_of why; place = place_of why }

-- the code of a build, of a read-back and of a round trip
abbrev pub answer_code : Result (Unit {0}) Refusal → Code
answer_code (Ok tt) = success
answer_code (Err why) = refusal_code why

-- the code of a call that writes a text or a file: the length of what it wrote stands where a refusal's place does
abbrev pub write_code : Result ℕ Refusal → Code
write_code (Ok n) = record { number = 0; place = n }
write_code (Err why) = refusal_code why
