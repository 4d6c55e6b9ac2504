-- What a build is refused for once it is in the domain, in the order of its tests. Assumes nothing.
use Rattle.refusal.specs.declared.Refusal.{Refusal}
use Rattle.std.specs.Prelude.{ℕ, ◌*◌, ◌^◌, Bool, ◌&&◌, not, List, ltb, length, get_or, Option}
use Rattle.lists.specs.Each.{each}
use Rattle.slot.specs.Description.{no_chip}
use Rattle.slot.specs.declared.description.Description.{Description}
use Rattle.refusal.specs.declared.Refusal.TheVariants.{RomTableTooLarge, InvalidConfig, BadPosition, MissingImageData, ShortImageData, ShortBuffer}
use Rattle.refusal.specs.First.{or_else, fault_if, first_of}
use Rattle.addr_layout.specs.declared.layout.AddrLayout.{AddrLayout}
use Rattle.cs_data_layout.specs.declared.layout.CsDataLayout.{CsDataLayout}
use Rattle.build_args.specs.declared.images.ImageSpan.{ImageSpan}
use Rattle.build_args.specs.Images.{chip_span, chip_bytes}
use Rattle.build_args.specs.Positions.{line_position_in, data_position_in}
use Rattle.picks.specs.Positions.{x_position_in}
use Rattle.picks.specs.Picks.{chips_fit}
use Rattle.build_args.specs.Picks.{num_picks, pick_at}
use Rattle.build_args.specs.declared.BuildArgs.{BuildArgs}

-- 01 rom_image 1: a table has an entry for every index that its address pins can form, 2^pins
abbrev pub entries_of : AddrLayout → ℕ
entries_of a = 2 ^ a.num_addr_pins

-- entries of w bytes each
abbrev pub table_size : Description → AddrLayout → ℕ
table_size d a = entries_of a * d.word_bytes

-- 01 Number 11: the table would have more than L bytes
abbrev pub table_too_large : Description → AddrLayout → Bool
table_too_large d a = ltb d.max_image_size (table_size d a)

-- 01 Number 13: passed where each address line in use has a position of 0 to 31
unfoldable pub address_in : AddrLayout → Bool
address_in a = each a.num_lines (λ n. line_position_in a n)

-- 01 Number 13: passed where each X pin that picks, and in Multi the first select line, has a GPIO at a position of 0 to 31
-- 01 Shape 9: a missing X pin or first select line is a refusal as any other fault is
unfoldable pub picks_in : Description → AddrLayout → CsDataLayout → Bool
picks_in d a c = each (num_picks d) (λ k. x_position_in a.gpio_base (pick_at d a c k))

-- 01 Number 13: passed where each data line has a position of 0 to 31
unfoldable pub data_positions_in : CsDataLayout → Bool
data_positions_in c = each c.num_data_pins (λ k. data_position_in c k)

-- 01 Number 14: chip k has the mark of a chip without bytes; k is the place
abbrev pub missing_at : List ImageSpan → ℕ → Option Refusal
missing_at spans k = fault_if (not (chip_span spans k).present) (MissingImageData k)

-- 01 Number 15: chip k was given fewer bytes than its size says; k is the place
abbrev pub short_at : Description → List ℕ → List ImageSpan → ℕ → Option Refusal
short_at d images spans k = fault_if (ltb (length (chip_bytes images (chip_span spans k))) (get_or d.chips k no_chip).size) (ShortImageData k)

-- 01 Number 16: the table lent has fewer bytes than the build would write
abbrev pub too_short : Description → AddrLayout → ℕ → Bool
too_short d a lent = ltb lent (table_size d a)

-- 01 Numbers 3: address lines first (13), then the number of chips (12), then the lines that pick and the data lines (13)
abbrev pub lines_fault : Description → AddrLayout → CsDataLayout → Option Refusal
lines_fault d a c =
    or_else (fault_if (not (address_in a)) BadPosition)
    (or_else (fault_if (not (chips_fit d.set_type d.num_chips)) InvalidConfig)
    (fault_if (not (picks_in d a c && data_positions_in c)) BadPosition))

-- 01 Number 14: of several chips without bytes the lowest answers
-- 01 Number 15: of several chips with too few bytes the lowest answers
-- 01 Numbers 3: 14 of all chips, then 15 of all chips
abbrev pub images_fault : Description → List ℕ → List ImageSpan → Option Refusal
images_fault d images spans = or_else (first_of d.num_chips (missing_at spans)) (first_of d.num_chips (short_at d images spans))

-- 01 Numbers 3: 14 and 15, then 16
abbrev pub lent_fault : Description → AddrLayout → List ℕ → List ImageSpan → ℕ → Option Refusal
lent_fault d a images spans lent = or_else (images_fault d images spans) (fault_if (too_short d a lent) ShortBuffer)

-- the first refusal of all, for a table of as many bytes as are lent
-- 01 Numbers 3: the table's size (11), then the lines and the number of chips, then what is lent
unfoldable pub build_fault : BuildArgs → List ℕ → ℕ → Option Refusal
build_fault b images lent =
    or_else (fault_if (table_too_large b.description b.addr) RomTableTooLarge)
    (or_else (lines_fault b.description b.addr b.cs_data) (lent_fault b.description b.addr images b.spans lent))
