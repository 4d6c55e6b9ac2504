-- What the functions that write a text's pieces are given: room for the piece, and numbers that fit. Assumes nothing.
use Rattle.std.specs.Prelude.{ℕ, ◌+◌, ◌*◌, ◌^◌, ◌≤◌, ◌<◌, List, length}
use Rattle.hex_write.specs.Text.{ahead, data_bytes, pieces, record_text}

pub record RoomAhead (text : List ℕ) (at k : ℕ) : Type 0 where
  pub small : k < 2 ^ 28
  pub room : at + length (ahead k) ≤ length text

pub record RoomForData (text : List ℕ) (at : ℕ) (chip : List ℕ) (k : ℕ) : Type 0 where
  pub within : 16 * k < length chip
  pub small : length chip ≤ 2 ^ 24
  pub room : at + length (record_text (data_bytes chip k)) ≤ length text

pub record RoomForPieces (text chip : List ℕ) : Type 0 where
  pub small : length chip ≤ 2 ^ 24
  pub room : length (pieces chip) ≤ length text
