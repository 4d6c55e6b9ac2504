-- Parts of a description by place. What stands past an array's end is all 0. Assumes nothing.
use Rattle.std.specs.Prelude.{ℕ, Bool, true, false, [], get_or}
use Rattle.gpio.specs.declared.candidates.Candidates.TheVariants.{Absent}
use Rattle.gpio.specs.declared.candidates.Pin.{Pin}
use Rattle.slot.specs.declared.description.Package.{Package}
use Rattle.slot.specs.declared.description.Package.TheVariants.{A, B}
use Rattle.slot.specs.declared.description.ControlLine.{ControlLine}
use Rattle.slot.specs.declared.description.ControlLines.{ControlLines}
use Rattle.slot.specs.declared.description.Chip.{Chip}
use Rattle.slot.specs.declared.description.ChipSetType.{ChipSetType}
use Rattle.slot.specs.declared.description.ChipSetType.TheVariants.{Single, Banked, Multi}
use Rattle.slot.specs.declared.description.Description.{Description}

-- 02 Slip 3 2: the package is A, or it is B
abbrev pub is_a : Package → Bool
is_a A = true
is_a B = false

abbrev pub is_single : ChipSetType → Bool
is_single Single = true
is_single Banked = false
is_single Multi = false

abbrev pub is_multi : ChipSetType → Bool
is_multi Single = false
is_multi Banked = false
is_multi Multi = true

abbrev pub no_pin : Pin
no_pin = record { gpios = Absent }

abbrev pub no_line : ControlLine
no_line = record { kind = 0; pin = 0 }

abbrev pub no_chip : Chip
no_chip = record {
  address_pins = [];
  num_address_pins = 0;
  data_pins = [];
  num_data_pins = 0;
  control = record { lines = []; count = 0 };
  size = 0;
}

-- 01 Shape 5: the kinds of control lines, by number: ce, oe, cs1 to cs4, and any other
abbrev pub ce_kind : ℕ
ce_kind = 0

abbrev pub oe_kind : ℕ
oe_kind = 1

abbrev pub cs1_kind : ℕ
cs1_kind = 2

abbrev pub cs2_kind : ℕ
cs2_kind = 3

abbrev pub cs3_kind : ℕ
cs3_kind = 4

abbrev pub cs4_kind : ℕ
cs4_kind = 5

abbrev pub other_kind : ℕ
other_kind = 6

-- a chip's control line, and its kind
abbrev pub line_at : ControlLines → ℕ → ControlLine
line_at c k = get_or c.lines k no_line

abbrev pub kind_at : ControlLines → ℕ → ℕ
kind_at c k = (line_at c k).kind

-- 01 slot_context 2: the chip whose pins and lines the searches use is the first
abbrev pub chip0 : Description → Chip
chip0 d = get_or d.chips 0 no_chip
