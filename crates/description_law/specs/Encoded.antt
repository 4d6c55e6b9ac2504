-- The record of a description: the bytes of docs/INTERFACE.md in their order, and what its type says of a description.
-- Assumes nothing.
use Rattle.std.specs.Prelude.{◌≡◌, cond, List, [], ◌∷◌, ◌++◌, ℕ, ◌-◌, ◌^◌, ◌<◌, ℤ, pos, negsuc, length, get_or, Option, Some, None}
use Rattle.fields.specs.Fields.{field, four_bytes}
use Rattle.fields.specs.Candidates.{pair_field}
use Rattle.lists.specs.Tab.{joined}
use Rattle.gpio.specs.declared.candidates.Pin.{Pin}
use Rattle.slot.specs.Description.{no_pin, no_line, no_chip}
use Rattle.slot.specs.declared.description.Board.{Board}
use Rattle.slot.specs.declared.description.Package.{Package}
use Rattle.slot.specs.declared.description.Package.TheVariants.{A, B}
use Rattle.slot.specs.declared.description.ControlLine.{ControlLine}
use Rattle.slot.specs.declared.description.Chip.{Chip}
use Rattle.slot.specs.declared.description.ChipSetType.{ChipSetType}
use Rattle.slot.specs.declared.description.ChipSetType.TheVariants.{Single, Banked, Multi}
use Rattle.slot.specs.declared.description.CsLogic.{CsLogic}
use Rattle.slot.specs.declared.description.CsLogic.TheVariants.{ActiveLow, ActiveHigh, Ignore}
use Rattle.slot.specs.declared.description.CsConfig.{CsConfig}
use Rattle.slot.specs.declared.description.CsConfig.TheVariants.{ChipSelect, CeOe, CeOeExplicit}
use Rattle.slot.specs.declared.description.MultiCsConfig.{MultiCsConfig}
use Rattle.slot.specs.declared.description.Description.{Description}

-- "0 B, 1 A"
abbrev pub package_byte : Package → ℕ
package_byte A = 1
package_byte B = 0

-- "0 Single, 1 Banked, 2 Multi"
abbrev pub set_type_byte : ChipSetType → ℕ
set_type_byte Single = 0
set_type_byte Banked = 1
set_type_byte Multi = 2

-- "0 to 4, or 252 to 255 for -4 to -1"
abbrev pub offset_byte : ℤ → ℕ
offset_byte (pos n) = n
offset_byte (negsuc n) = 255 - n

-- "0 active low, 1 active high, 2 ignored"
abbrev pub logic_byte : CsLogic → ℕ
logic_byte ActiveLow = 0
logic_byte ActiveHigh = 1
logic_byte Ignore = 2

-- "or 255 for not given"
abbrev pub setting_byte : Option CsLogic → ℕ
setting_byte None = 255
setting_byte (Some l) = logic_byte l

-- the form, and the settings of ce, oe, cs1, cs2, cs3, cs4
abbrev pub cs_config_bytes : CsConfig → List ℕ
cs_config_bytes (ChipSelect cs1 cs2 cs3 cs4) =
    0 ∷ 255 ∷ 255 ∷ logic_byte cs1 ∷ setting_byte cs2 ∷ setting_byte cs3 ∷ setting_byte cs4 ∷ []
cs_config_bytes CeOe = 1 ∷ 255 ∷ 255 ∷ 255 ∷ 255 ∷ 255 ∷ 255 ∷ []
cs_config_bytes (CeOeExplicit ce oe) = 2 ∷ logic_byte ce ∷ logic_byte oe ∷ 255 ∷ 255 ∷ 255 ∷ 255 ∷ []

abbrev pub multi_bytes : MultiCsConfig → List ℕ
multi_bytes m =
    (m.select ∷ m.num_commoned ∷ m.num_ignored ∷ 0 ∷ 0 ∷ []) ++ field 8 m.commoned ++ field 8 m.ignored

-- the entries of the arrays
abbrev pub socket_pin_of : Board → ℕ → Pin
socket_pin_of b k = get_or b.socket k no_pin

abbrev pub control_line_of : Chip → ℕ → ControlLine
control_line_of c k = get_or c.control.lines k no_line

abbrev pub chip_of : Description → ℕ → Chip
chip_of d k = get_or d.chips k no_chip

abbrev pub board_bytes : Board → List ℕ
board_bytes b =
    joined 40 (λ k. pair_field (socket_pin_of b k).gpios) ++ pair_field b.x1 ++ pair_field b.x2

-- "three bytes a line: kind, pin, fixed level"
abbrev pub line_bytes : ControlLine → List ℕ
line_bytes l = l.kind ∷ l.pin ∷ 0 ∷ []

-- "A chip's 72 bytes"
abbrev pub chip_record : Chip → List ℕ
chip_record c =
    four_bytes c.size ++ (c.num_address_pins ∷ c.num_data_pins ∷ c.control.count ∷ 0 ∷ [])
    ++ field 24 c.address_pins ++ field 16 c.data_pins ++ joined 8 (λ k. line_bytes (control_line_of c k))

abbrev pub description_head : Description → List ℕ
description_head d =
    (d.board.pins ∷ package_byte d.«package» ∷ set_type_byte d.set_type ∷ d.word_bytes ∷ offset_byte d.pin_offset ∷ d.num_chips
    ∷ d.num_qualifiers ∷ cond d.has_multi 1 0 ∷ [])
    ++ four_bytes d.max_image_size ++ four_bytes 0

-- 01 Shape 7: a description is handed over as these bytes
unfoldable pub encoded : Description → List ℕ
encoded d =
    description_head d ++ field 7 (cs_config_bytes d.cs_config) ++ multi_bytes d.multi ++ field 8 d.qualifiers
    ++ board_bytes d.board ++ joined 4 (λ k. chip_record (chip_of d k))

-- [u8; n]
pub record Bytes (n : ℕ) (l : List ℕ) : Type 0 where
  pub long : length l ≡ n
  pub each : (k : ℕ) → get_or l k 0 < 2 ^ 8

pub record ValuedBoard (b : Board) : Type 0 where
  pub socket : length b.socket ≡ 40
  pub pins : b.pins < 2 ^ 8

pub record ValuedChip (c : Chip) : Type 0 where
  pub address_pins : Bytes 24 c.address_pins
  pub num_address_pins : c.num_address_pins < 2 ^ 8
  pub data_pins : Bytes 16 c.data_pins
  pub num_data_pins : c.num_data_pins < 2 ^ 8
  pub lines : length c.control.lines ≡ 8
  pub kinds : (k : ℕ) → (control_line_of c k).kind < 2 ^ 8
  pub pins : (k : ℕ) → (control_line_of c k).pin < 2 ^ 8
  pub count : c.control.count < 2 ^ 8
  pub size : c.size < 2 ^ 32

pub record ValuedMulti (m : MultiCsConfig) : Type 0 where
  pub select : m.select < 2 ^ 8
  pub commoned : Bytes 8 m.commoned
  pub num_commoned : m.num_commoned < 2 ^ 8
  pub ignored : Bytes 8 m.ignored
  pub num_ignored : m.num_ignored < 2 ^ 8

-- what the type says of every description: the arrays' lengths, a u8 below 2^8, a u32 below 2^32
-- 01 Shape 2: a list is an array of fixed length, and a count beside it
pub record Valued (d : Description) : Type 0 where
  pub board : ValuedBoard d.board
  pub word_bytes : d.word_bytes < 2 ^ 8
  pub max_image_size : d.max_image_size < 2 ^ 32
  pub chips : length d.chips ≡ 4
  pub chip : (k : ℕ) → k < 4 → ValuedChip (chip_of d k)
  pub num_chips : d.num_chips < 2 ^ 8
  pub multi : ValuedMulti d.multi
  pub qualifiers : Bytes 8 d.qualifiers
  pub num_qualifiers : d.num_qualifiers < 2 ^ 8
