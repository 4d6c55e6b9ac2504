-- How large a chip may be. Assumes nothing.
use Rattle.std.specs.Prelude.{ℕ, ◌^◌, Bool, nat_lt}

-- 02 Slip 1 6: a chip of more than 2^24 bytes is neither read nor written
abbrev pub too_long : ℕ → Bool
too_long size = nat_lt (2 ^ 24) size
