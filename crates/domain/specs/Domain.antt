-- Document 01, section Domain: what a description holds, sentence by sentence. Entries of a list past its count are no part of
-- the description; the socket's 40 places all are. Assumes nothing.
use Rattle.std.specs.Prelude.{ℕ, ◌+◌, ◌^◌, Bool, ◌&&◌, ◌||◌, not, List, leb, ltb, eqb, ℤ, get_or}
use Rattle.lists.specs.Each.{between, each}
use Rattle.gpio.specs.Candidates.{candidates_in, none_above, last_gpio_a}
use Rattle.slot.specs.Description.{is_a, is_multi, no_pin, no_chip, line_at, kind_at, ce_kind, cs4_kind, other_kind}
use Rattle.slot.specs.SlotContext.{board_pins_in, raised_of}
use Rattle.slot.specs.declared.description.Board.{Board}
use Rattle.slot.specs.declared.description.Package.{Package}
use Rattle.slot.specs.declared.description.ControlLines.{ControlLines}
use Rattle.slot.specs.declared.description.Chip.{Chip}
use Rattle.slot.specs.declared.description.MultiCsConfig.{MultiCsConfig}
use Rattle.slot.specs.declared.description.Description.{Description}

-- 01 Domain 2: the candidates at each of the socket's 40 places are at most 47
-- 01 Domain 9: two candidates at one place of the socket are different GPIOs
unfoldable pub socket_in : Board → Bool
socket_in b = each 40 (λ k. candidates_in (get_or b.socket k no_pin).gpios)

-- 01 Domain 1: the board's pin count is one of the four
-- 01 Domain 2: the candidates of X1 and X2 are at most 47
-- 01 Domain 9: two candidates of an X pin are different GPIOs
abbrev pub board_in : Board → Bool
board_in b = board_pins_in b.pins && socket_in b && candidates_in b.x1 && candidates_in b.x2

-- 01 Shape 5: the kind of a line is at most 6
-- 01 Domain 3: a line is on a pin from 1 to 40, and no line before it is of its kind, unless that is 6
unfoldable pub line_in : ControlLines → ℕ → Bool
line_in c k =
    between 1 40 (line_at c k).pin && leb (kind_at c k) other_kind
    && (eqb (kind_at c k) other_kind || each k (λ j. not (eqb (kind_at c j) (kind_at c k))))

unfoldable pub lines_in : ControlLines → Bool
lines_in c = each c.count (λ k. line_in c k)

-- 01 Domain 3: a chip has at most 8 control lines, each with its pin and kind as they should be
abbrev pub control_in : ControlLines → Bool
control_in c = leb c.count 8 && lines_in c

-- 01 Domain 3: the first n pins of a list are from 1 to 40
abbrev pub pins_in : List ℕ → ℕ → Bool
pins_in pins n = each n (λ k. between 1 40 (get_or pins k 0))

-- 01 Domain 3: a chip has from 1 to 24 address pins, and more than 1 unless w is 1; from 1 to 16 data pins; its control lines; and
-- at most 2^24 bytes
abbrev pub chip_in : Chip → ℕ → Bool
chip_in c w =
    (between 1 24 c.num_address_pins && (eqb w 1 || leb 2 c.num_address_pins)
    && pins_in c.address_pins c.num_address_pins)
    && (between 1 16 c.num_data_pins && pins_in c.data_pins c.num_data_pins)
    && control_in c.control
    && leb c.size (2 ^ 24)

-- 01 Domain 3: what holds of a chip is tested of the first n, of 4 at most
unfoldable pub chips_in : List Chip → ℕ → ℕ → Bool
chips_in chips n w = each 4 (λ k. leb n k || chip_in (get_or chips k no_chip) w)

-- 01 Domain 6: the first n lines of a list are of kinds up to 5
abbrev pub kinds_in : List ℕ → ℕ → Bool
kinds_in kinds n = each n (λ k. between ce_kind cs4_kind (get_or kinds k 0))

-- 01 Domain 6: the kind of the select is at most 5, and so is that of each commoned and ignored line; there are no more than 6 of
-- either
abbrev pub multi_in : MultiCsConfig → Bool
multi_in m =
    leb m.select cs4_kind
    && (leb m.num_commoned 6 && kinds_in m.commoned m.num_commoned)
    && (leb m.num_ignored 6 && kinds_in m.ignored m.num_ignored)

-- 01 Domain 16: a word has one byte or two
abbrev pub word_bytes_in : ℕ → Bool
word_bytes_in w = eqb w 1 || eqb w 2

-- 01 Domain 7: L is no less than 256 and no more than 2^20
abbrev pub max_image_size_in : ℕ → Bool
max_image_size_in l = between 256 (2 ^ 20) l

-- 01 Domain 5: the offset is neither below -4 nor above 4
abbrev pub pin_offset_in : ℤ → Bool
pin_offset_in offset = leb (raised_of offset) 8

-- 01 Domain 4: there is at least one chip, and there are no more than 4
abbrev pub chip_count_in : ℕ → Bool
chip_count_in n = between 1 4 n

-- 01 Domain 6: a select configuration is tested wherever there is one, be the set Multi or not
abbrev pub config_in : Description → Bool
config_in d = not d.has_multi || multi_in d.multi

-- 01 Domain 11: in Multi there is a select configuration
abbrev pub config_there : Description → Bool
config_there d = not (is_multi d.set_type) || d.has_multi

-- document 01's sentences on a description, a test a line
unfoldable pub slot_in : Description → Bool
slot_in d =
    board_in d.board
    && word_bytes_in d.word_bytes
    && max_image_size_in d.max_image_size
    && pin_offset_in d.pin_offset
    && chip_count_in d.num_chips
    && chips_in d.chips d.num_chips d.word_bytes
    && config_in d
    && config_there d

-- whether no candidate of a board is above a GPIO, neither at any of the socket's 40 places nor of X1 or X2
unfoldable pub no_candidate_above : ℕ → Board → Bool
no_candidate_above last b =
    each 40 (λ k. none_above last (get_or b.socket k no_pin).gpios) && none_above last b.x1 && none_above last b.x2

-- 02 Slip 3 2: on A no candidate is above 29
unfoldable pub package_in : Package → Board → Bool
package_in p b = not (is_a p) || no_candidate_above last_gpio_a b

-- the whole, as both searches and the build test it before all else
unfoldable pub description_in : Description → Bool
description_in d = slot_in d && package_in d.«package» d.board

-- 01 Domain 10: a qualifier is the index of an address line, and its GPIO is that of the line
abbrev pub qualifier_gpio : List ℕ → List ℕ → ℕ → ℕ
qualifier_gpio qualifiers gpios k = get_or gpios (get_or qualifiers k 0) 0

-- 01 Domain 10: the index of qualifier k is one of an in-range line, and its GPIO is at most 7 above that of any other
unfoldable pub qualifier_in : List ℕ → ℕ → List ℕ → ℕ → ℕ → Bool
qualifier_in qualifiers n gpios lines k =
    ltb (get_or qualifiers k 0) lines && each n (λ j. leb (qualifier_gpio qualifiers gpios k) (qualifier_gpio qualifiers gpios j + 7))

-- 01 Domain 10: there are at most 8 qualifiers, each of them tested; with none there is no list
abbrev pub qualifiers_in : List ℕ → ℕ → List ℕ → ℕ → Bool
qualifiers_in qualifiers n gpios lines = leb n 8 && each n (λ k. qualifier_in qualifiers n gpios lines k)
