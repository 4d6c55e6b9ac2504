-- What a read-back is refused for while no entry has been looked at, in the order of its tests. Assumes nothing.
use Rattle.refusal.specs.declared.Refusal.{Refusal}
use Rattle.std.specs.Prelude.{ℕ, ◌*◌, ◌^◌, Bool, ◌||◌, not, cond, List, leb, ltb, eqb, length, get_or, Option, None}
use Rattle.lists.specs.Each.{each}
use Rattle.gpio.specs.declared.candidates.Candidates.{Candidates}
use Rattle.slot.specs.declared.description.ChipSetType.{ChipSetType}
use Rattle.slot.specs.declared.description.ChipSetType.TheVariants.{Single, Banked, Multi}
use Rattle.refusal.specs.declared.Refusal.TheVariants.{MissingLayout, UnknownAlgorithm, BadLayout, XPin, ShortBuffer}
use Rattle.refusal.specs.First.{or_else, fault_if, first_of}
use Rattle.picks.specs.Picks.{chips_fit}
use Rattle.stored_slot.specs.Stored.{rom_at, word_bytes, addr_base, stored_data_base, stored_select, stored_pins, within, in_window, addr_lines, data_lines, one_inside}
use Rattle.stored_slot.specs.Words.{all_words}
use Rattle.stored_slot.specs.declared.stored.StoredSlot.{StoredSlot}

-- 01 Number 17: the slot declares another size than the stored bytes have
abbrev pub wrong_size : StoredSlot → List ℕ → Bool
wrong_size s stored = not (eqb (length stored) s.size)

-- the algorithms, in the order in which they are looked at
-- 01 Number 19: there is no layout
-- 01 Number 20: the address or DMA algorithm is not 0, or the data algorithm or the bit mode is neither 0 nor 1
-- 01 unscramble 2: the address or the data base comes to more than 255, there are more than 31 address pins, or the stored bytes
-- are not w for each entry
unfoldable pub layout_fault : StoredSlot → List ℕ → Option Refusal
layout_fault s stored =
    or_else (fault_if (not s.has_layout) MissingLayout)
    (or_else (fault_if (not (eqb s.alg_addr.alg 0)) UnknownAlgorithm)
    (or_else (fault_if (ltb 255 (addr_base s)) BadLayout)
    (or_else (fault_if (ltb 1 s.alg_data.alg) UnknownAlgorithm)
    (or_else (fault_if (ltb 255 (stored_data_base s)) BadLayout)
    (or_else (fault_if (not (eqb s.alg_dma.alg 0) || ltb 1 s.alg_dma.bit_mode) UnknownAlgorithm)
    (or_else (fault_if (leb 32 (stored_pins s)) BadLayout)
    (fault_if (not (eqb (length stored) (2 ^ stored_pins s * word_bytes s))) BadLayout)))))))

-- ROM by ROM
-- 01 Number 19: ROM k has no pin map
-- 01 unscramble 2: ROM k has an address line outside of the address pins, a data line outside of the 8w GPIOs that begin at the
-- data base, or more or fewer than 8w data lines
unfoldable pub rom_fault : StoredSlot → ℕ → Option Refusal
rom_fault s k =
    or_else (fault_if (not (rom_at s k).has_map) MissingLayout)
    (or_else (fault_if (not (each (addr_lines (rom_at s k)) (λ n. in_window s (get_or (rom_at s k).addr n 0)))) BadLayout)
    (or_else (fault_if (not (each (data_lines (rom_at s k)) (λ n. within (stored_data_base s) (8 * word_bytes s) (get_or (rom_at s k).data_lines n 0)))) BadLayout)
    (fault_if (not (eqb (data_lines (rom_at s k)) (8 * word_bytes s))) BadLayout)))

-- 01 Number 22: none of the pin's candidates is in the window, or both are; the place is x
abbrev pub x_fault : StoredSlot → ℕ → Candidates → Option Refusal
x_fault s x pin = fault_if (not (one_inside s pin)) (XPin x)

-- 01 Number 22: X1 is tested first, then X2, which is needed from three ROMs on
abbrev pub x_faults : StoredSlot → Option Refusal
x_faults s = or_else (x_fault s 1 s.x1) (cond (leb 3 s.num_roms) (x_fault s 2 s.x2) None)

-- 01 Number 20: in Multi, a select algorithm other than 0, which is AlgCs0
-- 01 unscramble 2: in Multi, a select that comes to more than 255 or is not in the window
abbrev pub select_fault : StoredSlot → Option Refusal
select_fault s =
    or_else (fault_if (not (eqb s.alg_cs.alg 0)) UnknownAlgorithm)
    (fault_if (ltb 255 (stored_select s) || not (in_window s (stored_select s))) BadLayout)

-- the lines that pick: none in Single, the X pins in Banked, the X pins and then the select in Multi
abbrev pub pick_fault : StoredSlot → ChipSetType → Option Refusal
pick_fault s Single = None
pick_fault s Banked = x_faults s
pick_fault s Multi = or_else (x_faults s) (select_fault s)

-- 01 Number 16: the output has less than w bytes for each word, or the marks less than one
abbrev pub room_fault : StoredSlot → ℕ → ℕ → Option Refusal
room_fault s output marks = fault_if (ltb output (all_words s * word_bytes s) || ltb marks (all_words s)) ShortBuffer

-- the first refusal of a slot of ROMs
-- 01 Number 21: given by the tests of the layout, of each ROM, of the number of ROMs and of the Multi select
-- 01 Numbers 4: the room in the buffers is tested last, when the X pins and the select line have passed
-- 01 unscramble 2: the set kind does not take as many ROMs
unfoldable pub roms_fault : StoredSlot → ChipSetType → List ℕ → ℕ → ℕ → Option Refusal
roms_fault s set stored output marks =
    or_else (layout_fault s stored)
    (or_else (first_of s.num_roms (rom_fault s))
    (or_else (fault_if (not (chips_fit set s.num_roms)) BadLayout)
    (or_else (pick_fault s set) (room_fault s output marks))))
