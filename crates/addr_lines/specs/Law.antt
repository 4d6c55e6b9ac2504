-- How many lines are in range, by the logarithm. Assumes nothing.
use Rattle.std.specs.Prelude.{◌≡◌, ◌+◌, ◌/◌, ◌^◌, ◌≤◌, ◌<◌}
use Rattle.slot.specs.declared.description.Description.{Description}
use Rattle.addr_lines.specs.Range.{most_entries, reach}

pub record RangeLaw (d : Description) : Type 0 where
  -- 01 addr_layout 2: the largest table has L / w entries
  pub most : most_entries d ≡ d.max_image_size / d.word_bytes
  -- 01 addr_layout 2: floor(log2(L / w)) is the one number whose power of two is at most L / w, the next one's being above
  pub reached : 2 ^ reach d ≤ most_entries d
  pub not_passed : most_entries d < 2 ^ (reach d + 1)
