-- What read-back is given of a found layout, by the last sentences of document 01 on a well wired slot. Assumes nothing.
use Rattle.std.specs.Prelude.{true, cond, List, ℕ, ◌-◌, ltb, get_or, replicate, Option, Some, None}
use Rattle.lists.specs.Tab.{tab}
use Rattle.slot.specs.Description.{no_chip}
use Rattle.slot.specs.declared.description.Description.{Description}
use Rattle.addr_layout.specs.declared.layout.AddrLayout.{AddrLayout}
use Rattle.cs_data_layout.specs.declared.layout.CsDataLayout.{CsDataLayout}
use Rattle.build_args.specs.Picks.{first_select}
use Rattle.build_args.specs.Faults.{table_size}
use Rattle.stored_slot.specs.declared.stored.SlotType.TheVariants.{Roms}
use Rattle.stored_slot.specs.declared.stored.AlgAddr.{AlgAddr}
use Rattle.stored_slot.specs.declared.stored.AlgData.{AlgData}
use Rattle.stored_slot.specs.declared.stored.AlgCs.{AlgCs}
use Rattle.stored_slot.specs.declared.stored.Rom.{Rom}
use Rattle.stored_slot.specs.declared.stored.StoredSlot.{StoredSlot}

-- a map's list of the first n GPIOs
-- 01 unscramble 3: a list of fewer than 32 goes on with 255
abbrev pub map_list : List ℕ → ℕ → List ℕ
map_list gpios n = tab 32 (λ k. cond (ltb k n) (get_or gpios k 0) 255)

-- 01 Well wired 11: a ROM has its chip's size
-- 01 Well wired 12: a ROM's map lists the GPIOs of the address lines in use, and those of the data lines
abbrev pub stored_rom : Description → AddrLayout → CsDataLayout → ℕ → Rom
stored_rom d a c k = record {
  has_map = true;
  chip_size = (get_or d.chips k no_chip).size;
  addr = map_list a.gpios a.num_lines;
  data_lines = map_list c.data_pin_gpios c.num_data_pins;
}

-- a line's GPIO; 0 where there is none
abbrev pub gpio_or0 : Option ℕ → ℕ
gpio_or0 None = 0
gpio_or0 (Some g) = g

-- 01 Well wired 11: the address algorithm is 0, which is known
-- 01 Well wired 12: base and number of pins come from the address layout
abbrev pub alg_addr_of : AddrLayout → AlgAddr
alg_addr_of a = record { alg = 0; gpio_base = a.gpio_base; base_addr_pin = 0; num_addr_pins = a.num_addr_pins }

-- 01 Well wired 11: the data algorithm is 0, which is known
-- 01 Well wired 12: base and base pin come from the select layout, and add up to the lowest data GPIO
abbrev pub alg_data_of : CsDataLayout → AlgData
alg_data_of c = record { alg = 0; gpio_base = c.gpio_base; base_data_pin = c.base_data_pin }

-- 01 Well wired 12: the select algorithm is AlgCs0, and its sum of base and pin the GPIO of the first select line
abbrev pub alg_cs_of : CsDataLayout → AlgCs
alg_cs_of c = record { alg = 0; gpio_base = gpio_or0 (first_select c); first_rom_cs_base = 0 }

-- 01 Well wired 10: no override is given, so that no bit is forced
-- 01 Well wired 11: set kind, number of ROMs and X candidates come from the description, the bit mode from its w; the DMA algorithm
-- is 0, which is known; the declared size is that of the table
unfoldable pub stored_of : Description → AddrLayout → CsDataLayout → StoredSlot
stored_of d a c = record {
  size = table_size d a;
  slot_type = Roms d.set_type;
  has_layout = true;
  alg_addr = alg_addr_of a;
  alg_data = alg_data_of c;
  alg_dma = record { alg = 0; bit_mode = d.word_bytes - 1 };
  alg_cs = alg_cs_of c;
  overrides = replicate 64 0;
  num_overrides = 0;
  x1 = d.board.x1;
  x2 = d.board.x2;
  roms = tab 4 (stored_rom d a c);
  num_roms = d.num_chips;
}
