-- The positions of the lines of a slot's layouts. Assumes nothing.
use Rattle.std.specs.Prelude.{ℕ, ◌+◌, Bool, get_or}
use Rattle.picks.specs.Positions.{position, position_in}
use Rattle.addr_layout.specs.declared.layout.AddrLayout.{AddrLayout}
use Rattle.cs_data_layout.specs.declared.layout.CsDataLayout.{CsDataLayout}

-- the address lines in use
abbrev pub line_position : AddrLayout → ℕ → ℕ
line_position a n = position a.gpio_base (get_or a.gpios n 0)

abbrev pub line_position_in : AddrLayout → ℕ → Bool
line_position_in a n = position_in a.gpio_base (get_or a.gpios n 0)

-- the data lines
abbrev pub data_base : CsDataLayout → ℕ
data_base c = c.gpio_base + c.base_data_pin

-- 01 rom_image 8: a data line's position is counted from the data base
abbrev pub data_position : CsDataLayout → ℕ → ℕ
data_position c n = position (data_base c) (get_or c.data_pin_gpios n 0)

abbrev pub data_position_in : CsDataLayout → ℕ → Bool
data_position_in c n = position_in (data_base c) (get_or c.data_pin_gpios n 0)
