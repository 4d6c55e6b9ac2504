-- Which fault of a line answers. Assumes nothing.
use Rattle.std.specs.Prelude.{ℕ, ◌+◌, ◌<◌, ◌≤◌, ◌≡◌, true, false, List, ◌≢◌, Some}
use Rattle.refusal.specs.declared.Refusal.TheVariants.{BadRecord, BadChecksum, PastChip}
use Rattle.hex_record.specs.Record.{count_of, sum_of, shaped, is_data, address_of, line_fault}

-- a data byte of a record stands at an address past a chip of so many bytes
pub record BytePast (size upper : ℕ) (line : List ℕ) : Type 0 where
  pub has_data : is_data line ≡ true
  pub at : ℕ
  pub within : at < count_of line
  pub past : size ≤ address_of upper line + at

pub record FaultLaw (size upper : ℕ) (line : List ℕ) : Type 0 where
  -- 02 Slip 1 12: a line without a record's shape is refused for that, whatever its sum
  pub shape : shaped line ≡ false → line_fault size upper line ≡ Some BadRecord
  -- 02 Slip 1 12: one that has the shape is refused for a wrong sum, wherever its data are
  pub sum : shaped line ≡ true → sum_of line ≢ 0 → line_fault size upper line ≡ Some BadChecksum
  -- 02 Slip 1 12: one that has both is refused just if some data byte of it is past the chip
  pub past : shaped line ≡ true → sum_of line ≡ 0 → BytePast size upper line → line_fault size upper line ≡ Some PastChip
  pub is_past : line_fault size upper line ≡ Some PastChip → BytePast size upper line
