-- The slots of the joint table, and the layouts and bytes of its builds: Single, one chip in a socket of 24 pins, 8-bit mode, L 256.
-- Assumes nothing.
use Rattle.std.specs.Prelude.{ℕ, ◌-◌, true, false, List, [], ◌∷◌, ◌++◌, map, pos, length, replicate, None, Option}
use Rattle.gpio.specs.declared.candidates.Candidates.{Candidates}
use Rattle.gpio.specs.declared.candidates.Candidates.TheVariants.{Absent, One}
use Rattle.slot.specs.Description.{no_pin, no_line}
use Rattle.slot.specs.declared.description.Package.TheVariants.{B}
use Rattle.slot.specs.declared.description.ControlLine.{ControlLine}
use Rattle.slot.specs.declared.description.Chip.{Chip}
use Rattle.slot.specs.declared.description.ChipSetType.TheVariants.{Single}
use Rattle.slot.specs.declared.description.CsConfig.TheVariants.{CeOe}
use Rattle.slot.specs.declared.description.Description.{Description}
use Rattle.multi_select.specs.MultiCsConfig.{nothing}
use Rattle.addr_layout.specs.Layout.{no_layout}
use Rattle.addr_layout.specs.declared.layout.AddrLayout.{AddrLayout}
use Rattle.cs_data_layout.specs.Layout.{line}
use Rattle.cs_data_layout.specs.declared.layout.CsDataLayout.{CsDataLayout}
use Rattle.build_args.specs.Images.{no_span}
use Rattle.build_args.specs.declared.images.ImageSpan.{ImageSpan}

-- an array of n: these, and the same from there on
abbrev pub array : {A : Type 0} → ℕ → List A → A → List A
array n these rest = these ++ replicate (n - length these) rest

-- a chip with these address pins, data pins, control lines and bytes
abbrev pub chip_with : List ℕ → List ℕ → List ControlLine → ℕ → Chip
chip_with address dataPins lines size = record {
  address_pins = array 24 address 0;
  num_address_pins = length address;
  data_pins = array 16 dataPins 0;
  num_data_pins = length dataPins;
  control = record { lines = array 8 lines no_line; count = length lines };
  size = size;
}

-- the chip in a socket whose first pins have these candidates, and whose others have none
abbrev pub slot_with : List Candidates → Chip → Description
slot_with gpios chip = record {
  board = record { socket = array 40 (map (λ c. record { gpios = c }) gpios) no_pin; pins = 24; x1 = Absent; x2 = Absent };
  «package» = B;
  set_type = Single;
  word_bytes = 1;
  pin_offset = pos 0;
  max_image_size = 256;
  chips = replicate 4 chip;
  num_chips = 1;
  cs_config = CeOe;
  has_multi = false;
  multi = nothing;
  qualifiers = replicate 8 0;
  num_qualifiers = 0;
}

-- 01 Bench 3: three address lines with these candidates
abbrev pub lines_at : Candidates → Candidates → Candidates → Description
lines_at first second third = slot_with (first ∷ second ∷ third ∷ []) (chip_with (1 ∷ 2 ∷ 3 ∷ []) (4 ∷ []) [] 8)

-- 01 Bench 4: ce and oe at these GPIOs, behind one data line at GPIO 16
abbrev pub selects_at : ℕ → ℕ → Description
selects_at ce oe =
    slot_with (One 16 ∷ One ce ∷ One oe ∷ [])
    (chip_with (4 ∷ []) (1 ∷ []) (record { kind = 0; pin = 2 } ∷ record { kind = 1; pin = 3 } ∷ []) 2)

-- no address layout is handed to the select search
abbrev pub not_given : Option AddrLayout
not_given = None

-- a build goes by the layouts handed in, and looks at no candidate
-- 01 Bench 6: a chip of as many bytes, with two address lines and eight data lines
abbrev pub sized : ℕ → Description
sized size = slot_with [] (chip_with (1 ∷ 2 ∷ []) (3 ∷ 4 ∷ 5 ∷ 6 ∷ 7 ∷ 8 ∷ 9 ∷ 10 ∷ []) [] size)

-- 01 Bench 6: the two address lines are the low bits of the index, in a table of four entries
abbrev pub address_lines : AddrLayout
address_lines = record {
  gpio_base = 0;
  num_addr_pins = 2;
  x1_gpio = None;
  x2_gpio = None;
  gpios = array 24 (0 ∷ 1 ∷ []) 0;
  num_lines = 2;
  num_excess = 0;
}

-- data lines on these GPIOs, and the data base at 0
abbrev pub data_lines_at : List ℕ → CsDataLayout
data_lines_at gpios = record {
  gpio_base = 0;
  base_data_pin = 0;
  num_data_pins = length gpios;
  data_pin_gpios = array 16 gpios 0;
  base_cs_pin = 0;
  num_cs_pins = 0;
  cs_ignore_index = None;
  select_lines = replicate 30 (line 0 0);
  num_select_lines = 0;
  commoned_lines = replicate 6 (line 0 0);
  num_commoned_lines = 0;
  qualifiers = None;
}

abbrev pub in_order : CsDataLayout
in_order = data_lines_at (0 ∷ 1 ∷ 2 ∷ 3 ∷ 4 ∷ 5 ∷ 6 ∷ 7 ∷ [])

-- 01 Bench 5: data line n is at position 7 - n
abbrev pub reversed : CsDataLayout
reversed = data_lines_at (7 ∷ 6 ∷ 5 ∷ 4 ∷ 3 ∷ 2 ∷ 1 ∷ 0 ∷ [])

-- all bytes that are lent are the chip's
abbrev pub spans : List ℕ → List ImageSpan
spans bytes = array 4 (record { present = true; start = 0; length = length bytes } ∷ []) no_span
