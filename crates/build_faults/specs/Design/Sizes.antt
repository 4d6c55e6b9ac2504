-- What the numbers that a table's size is made of keep to. No answer is defined by it: `table_size` is the size. Assumes nothing.
use Rattle.std.specs.Prelude.{◌≤◌, ◌<◌, ◌^◌}
use Rattle.slot.specs.declared.description.Description.{Description}
use Rattle.addr_layout.specs.declared.layout.AddrLayout.{AddrLayout}

-- a table of at most 2^32 bytes
pub record TableIn (d : Description) (a : AddrLayout) : Type 0 where
  pub pins : a.num_addr_pins < 32
  pub bytes : d.word_bytes ≤ 2

-- the largest table that a slot may have, and the bytes of a word
pub record SizesIn (d : Description) : Type 0 where
  pub image_size : d.max_image_size ≤ 2 ^ 20
  pub some_bytes : 1 ≤ d.word_bytes
  pub bytes : d.word_bytes ≤ 2
