-- The checksum does what it is for. Assumes nothing.
use Rattle.std.specs.Prelude.{◌≡◌, ℕ, ◌+◌, ◌%◌, ◌<◌, List}
use Rattle.hex_base.specs.Sum.{bytes_total, checksum_of}

pub record ChecksumLaw (bytes : List ℕ) : Type 0 where
  pub byte : checksum_of bytes < 256
  -- 02 Slip 1 5: bytes and checksum together come to a multiple of 256
  pub sound : (bytes_total bytes + checksum_of bytes) % 256 ≡ 0
