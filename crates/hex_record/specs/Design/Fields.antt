-- The fields of a line, read from their digits. Assumes nothing.
use Rattle.std.specs.Prelude.{◌≡◌, ℕ, ◌≤◌, List}
use Rattle.hex_record.specs.Record.{count_of, offset_of, type_of}

pub record Fields (line : List ℕ) (kind count offset : ℕ) : Type 0 where
  pub typed : kind ≡ type_of line
  pub counted : count ≡ count_of line
  pub placed : offset ≡ offset_of line
  pub few : count ≤ 272
  pub near : offset ≤ 69904
