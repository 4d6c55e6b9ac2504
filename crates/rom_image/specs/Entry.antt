-- rom_image.rs, `build_rom_image`: what each entry of the table holds. Assumes nothing.
use Rattle.std.specs.Prelude.{ℕ, ◌*◌, ◌%◌, cond, List, ltb, Option, Some, None}
use Rattle.bits.specs.Bits.{gather, index_address, scatter}
use Rattle.words.specs.Words.{pad_word, chip_word, entries_bytes}
use Rattle.words.specs.declared.ByteOrder.{ByteOrder}
use Rattle.slot.specs.declared.description.Description.{Description}
use Rattle.addr_layout.specs.declared.layout.AddrLayout.{AddrLayout}
use Rattle.cs_data_layout.specs.declared.layout.CsDataLayout.{CsDataLayout}
use Rattle.build_args.specs.Images.{chip_span, chip_bytes}
use Rattle.build_args.specs.Positions.{line_position, data_position}
use Rattle.build_args.specs.Picks.{num_picks, pick_position, picked}
use Rattle.build_args.specs.Faults.{entries_of}
use Rattle.build_args.specs.declared.images.ImageSpan.{ImageSpan}
use Rattle.build_args.specs.declared.BuildArgs.{BuildArgs}
use Rattle.build_wiring.specs.Counts.{word_count, power_of_two}

-- 01 rom_image 2: a chip's address is read by the positions of the lines in use
unfoldable pub chip_address : AddrLayout → ℕ → ℕ
chip_address a i = index_address a.num_lines (line_position a) i

-- the chip that an index picks
unfoldable pub chip_picked : Description → AddrLayout → CsDataLayout → ℕ → Option ℕ
chip_picked d a c i = picked d (gather (num_picks d) (pick_position d a c) i)

-- 01 rom_image 7: an address not below the number of words counts modulo that number where it is a power of two, and gives the pad
-- where it is not
abbrev pub word_or_pad : ℕ → ℕ → (ℕ → ℕ) → ℕ → ℕ
word_or_pad pad count word_at n = cond (ltb n count) (word_at n) (cond (power_of_two count) (word_at (n % count)) pad)

-- 01 rom_image 6: the pad is w bytes of the pad byte
abbrev pub pad_of : ℕ → Description → ℕ
pad_of pad d = pad_word d.word_bytes pad

-- the word of the chip that is picked, at an address
-- 01 rom_image 6: where no chip is picked the word is the pad
-- 02 Slip 5 2: the chip's word is taken by the byte order of the call
abbrev pub word_of : ℕ → ByteOrder → Description → List ℕ → List ImageSpan → Option ℕ → ℕ → ℕ
word_of pad order d images spans None n = pad_of pad d
word_of pad order d images spans (Some k) n =
    word_or_pad (pad_of pad d) (word_count d k) (λ m. chip_word order d.word_bytes (chip_bytes images (chip_span spans k)) m) n

-- 01 rom_image 8: each data line carries its bit of the word to its position; where several meet the bits are or-ed, and a bit for
-- position 8w or above is dropped
unfoldable pub scrambled : Description → CsDataLayout → ℕ → ℕ
scrambled d c v = scatter c.num_data_pins (data_position c) (8 * d.word_bytes) v

-- the entry at an index, over the pad byte and the byte order
-- 01 rom_image 6: a pad is scrambled as a word is
unfoldable pub entry_at : ℕ → ByteOrder → BuildArgs → List ℕ → ℕ → ℕ
entry_at pad order b images i =
    scrambled b.description b.cs_data
    (word_of pad order b.description images b.spans (chip_picked b.description b.addr b.cs_data i) (chip_address b.addr i))

-- the table, over the pad byte and the byte order
-- 01 rom_image 1: the table is its 2^pins entries in index order
-- 01 rom_image 9: an entry's lowest byte is written first
-- 02 Slip 5 2: entries stay low byte first under either byte order
unfoldable pub table_of : ℕ → ByteOrder → BuildArgs → List ℕ → List ℕ
table_of pad order b images = entries_bytes b.description.word_bytes (entry_at pad order b images) (entries_of b.addr)
