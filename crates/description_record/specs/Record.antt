-- The description record of docs/INTERFACE.md: what its bytes describe, place by place, and which records are refused.
-- Assumes nothing.
use Rattle.std.specs.Prelude.{ℕ, ◌+◌, ◌*◌, ◌-◌, Bool, ◌&&◌, ◌||◌, cond, List, leb, eqb, ℤ, pos, negsuc, length, Option, Some, None, Ok, Err}
use Rattle.fields.specs.Fields.{byte_at, bytes_at, four_at}
use Rattle.fields.specs.Candidates.{pair_at, pair_in}
use Rattle.lists.specs.Each.{each}
use Rattle.lists.specs.Tab.{tab}
use Rattle.gpio.specs.declared.candidates.Pin.{Pin}
use Rattle.slot.specs.declared.description.Board.{Board}
use Rattle.slot.specs.declared.description.Package.{Package}
use Rattle.slot.specs.declared.description.Package.TheVariants.{A, B}
use Rattle.slot.specs.declared.description.ControlLine.{ControlLine}
use Rattle.slot.specs.declared.description.ControlLines.{ControlLines}
use Rattle.slot.specs.declared.description.Chip.{Chip}
use Rattle.slot.specs.declared.description.ChipSetType.{ChipSetType}
use Rattle.slot.specs.declared.description.ChipSetType.TheVariants.{Single, Banked, Multi}
use Rattle.slot.specs.declared.description.CsLogic.{CsLogic}
use Rattle.slot.specs.declared.description.CsLogic.TheVariants.{ActiveLow, ActiveHigh, Ignore}
use Rattle.slot.specs.declared.description.CsConfig.{CsConfig}
use Rattle.slot.specs.declared.description.CsConfig.TheVariants.{ChipSelect, CeOe, CeOeExplicit}
use Rattle.slot.specs.declared.description.MultiCsConfig.{MultiCsConfig}
use Rattle.slot.specs.declared.description.Description.{Description}
use Rattle.refusal.specs.declared.Refusal.TheVariants.{OutOfDomain}
use Rattle.description_record.specs.declared.Decoded.{Decoded}

-- "424 bytes"
abbrev pub record_size : ℕ
record_size = 424

-- "0 B, 1 A"
abbrev pub package_of : ℕ → Package
package_of x = cond (eqb x 0) B A

-- "0 Single, 1 Banked, 2 Multi"
abbrev pub set_type_of : ℕ → ChipSetType
set_type_of x = cond (eqb x 0) Single (cond (eqb x 1) Banked Multi)

-- "0 to 4, or 252 to 255 for -4 to -1"
-- 01 Domain 5: a byte stands for an offset of -4 to 4, or for none
abbrev pub offset_in : ℕ → Bool
offset_in x = leb x 4 || (leb 252 x && leb x 255)

abbrev pub offset_of : ℕ → ℤ
offset_of x = cond (leb x 4) (pos x) (cond (leb 252 x && leb x 255) (negsuc (255 - x)) (pos 0))

-- "0 active low, 1 active high, 2 ignored"
abbrev pub logic_from : ℕ → CsLogic
logic_from x = cond (eqb x 0) ActiveLow (cond (eqb x 1) ActiveHigh Ignore)

-- "or 255 for not given"
abbrev pub setting_of : ℕ → Option CsLogic
setting_of x = cond (eqb x 255) None (Some (logic_from x))

abbrev pub logic_in : ℕ → Bool
logic_in x = leb x 2

abbrev pub setting_in : ℕ → Bool
setting_in x = leb x 2 || eqb x 255

-- "0 chip selects, 1 ce and oe, 2 explicit ce and oe"
unfoldable pub cs_config_at : List ℕ → CsConfig
cs_config_at b =
    cond (eqb (byte_at b 16) 0)
    (ChipSelect (logic_from (byte_at b 19)) (setting_of (byte_at b 20)) (setting_of (byte_at b 21)) (setting_of (byte_at b 22)))
    (cond (eqb (byte_at b 16) 1) CeOe (CeOeExplicit (logic_from (byte_at b 17)) (logic_from (byte_at b 18))))

-- the form is one of the three; a setting that it uses is one of its values, and one that it does not use is 255
unfoldable pub cs_config_in : List ℕ → Bool
cs_config_in b =
    cond (eqb (byte_at b 16) 0)
    (eqb (byte_at b 17) 255 && eqb (byte_at b 18) 255 && logic_in (byte_at b 19) && setting_in (byte_at b 20) && setting_in (byte_at b 21)
    && setting_in (byte_at b 22))
    (cond (eqb (byte_at b 16) 1)
    (eqb (byte_at b 17) 255 && eqb (byte_at b 18) 255)
    (eqb (byte_at b 16) 2 && logic_in (byte_at b 17) && logic_in (byte_at b 18))
    && (eqb (byte_at b 19) 255 && eqb (byte_at b 20) 255 && eqb (byte_at b 21) 255 && eqb (byte_at b 22) 255))

unfoldable pub multi_at : List ℕ → MultiCsConfig
multi_at b = record {
  select = byte_at b 23;
  commoned = bytes_at b 28 8;
  num_commoned = byte_at b 24;
  ignored = bytes_at b 36 8;
  num_ignored = byte_at b 25;
}

-- "candidates of socket pins 1 to 40, two bytes a pin"
abbrev pub socket_at : List ℕ → List Pin
socket_at b = tab 40 (λ k. record { gpios = pair_at b (52 + 2 * k) })

unfoldable pub board_at : List ℕ → Board
board_at b = record {
  socket = socket_at b;
  pins = byte_at b 0;
  x1 = pair_at b 132;
  x2 = pair_at b 134;
}

-- "three bytes a line: kind, pin, fixed level"
abbrev pub control_line_at : List ℕ → ℕ → ControlLine
control_line_at b p = record { kind = byte_at b p; pin = byte_at b (p + 1) }

abbrev pub control_lines_at : List ℕ → ℕ → List ControlLine
control_lines_at b p = tab 8 (λ k. control_line_at b (p + 48 + 3 * k))

abbrev pub control_at : List ℕ → ℕ → ControlLines
control_at b p = record { lines = control_lines_at b p; count = byte_at b (p + 6) }

unfoldable pub chip_at : List ℕ → ℕ → Chip
chip_at b p = record {
  address_pins = bytes_at b (p + 8) 24;
  num_address_pins = byte_at b (p + 4);
  data_pins = bytes_at b (p + 32) 16;
  num_data_pins = byte_at b (p + 5);
  control = control_at b p;
  size = four_at b p;
}

-- "chips 0 to 3, 72 bytes a chip"
abbrev pub chips_at : List ℕ → List Chip
chips_at b = tab 4 (λ k. chip_at b (136 + 72 * k))

-- what the record describes
-- 01 Shape 7: a description is taken from bytes, each at its place in docs/INTERFACE.md
-- 01 Shape 8: L is read from places 8 to 11
unfoldable pub described : List ℕ → Description
described b = record {
  board = board_at b;
  «package» = package_of (byte_at b 1);
  set_type = set_type_of (byte_at b 2);
  word_bytes = byte_at b 3;
  pin_offset = offset_of (byte_at b 4);
  max_image_size = four_at b 8;
  chips = chips_at b;
  num_chips = byte_at b 5;
  cs_config = cs_config_at b;
  has_multi = eqb (byte_at b 7) 1;
  multi = multi_at b;
  qualifiers = bytes_at b 44 8;
  num_qualifiers = byte_at b 6;
}

-- the places that must be 0, and those that are one of a few values
-- 02 Slip 3 3: a package that is neither A nor B is refused
unfoldable pub head_in : List ℕ → Bool
head_in b =
    leb (byte_at b 1) 1 && leb (byte_at b 2) 2 && offset_in (byte_at b 4) && leb (byte_at b 7) 1 && eqb (four_at b 12) 0
    && eqb (byte_at b 26) 0 && eqb (byte_at b 27) 0

-- the candidates of the socket's pins, of X1 and of X2
abbrev pub pairs_in : List ℕ → Bool
pairs_in b = each 42 (λ k. pair_in b (52 + 2 * k))

-- "level: 0 (kept for the fixed level)"
abbrev pub levels_in : List ℕ → ℕ → Bool
levels_in b p = each 8 (λ k. eqb (byte_at b (p + 50 + 3 * k)) 0)

-- a chip's places that must be 0
abbrev pub chip_zeros : List ℕ → ℕ → Bool
chip_zeros b p = eqb (byte_at b (p + 7)) 0 && levels_in b p

abbrev pub chip_places_in : List ℕ → Bool
chip_places_in b = each 4 (λ k. chip_zeros b (136 + 72 * k))

unfoldable pub well_formed : List ℕ → Bool
well_formed b = eqb (length b) record_size && head_in b && cs_config_in b && pairs_in b && chip_places_in b

-- the description, or refusal 1
-- 01 Number 1: bytes that are not well formed are refused
abbrev pub decoded_of : List ℕ → Decoded
decoded_of b = record {
  answer = cond (well_formed b) (Ok tt) (Err OutOfDomain);
  description = described b;
}
