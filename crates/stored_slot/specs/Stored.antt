-- The slot as it is stored: its window, its maps, its forced bits. Assumes nothing.
use Rattle.std.specs.Prelude.{ℕ, zero, suc, ◌+◌, ◌-◌, ◌/◌, ◌%◌, ◌^◌, Bool, true, false, cond, ◌&&◌, ◌||◌, not, List, leb, ltb, eqb, get_or, replicate}
use Rattle.lists.specs.Each.{each}
use Rattle.gpio.specs.Candidates.{candidates_in}
use Rattle.gpio.specs.declared.candidates.Candidates.{Candidates}
use Rattle.gpio.specs.declared.candidates.Candidates.TheVariants.{Absent, One, Two}
use Rattle.bits.specs.Bits.{bit}
use Rattle.stored_slot.specs.declared.stored.Rom.{Rom}
use Rattle.stored_slot.specs.declared.stored.StoredSlot.{StoredSlot}

abbrev pub no_rom : Rom
no_rom = record { has_map = false; chip_size = 0; addr = replicate 32 0; data_lines = replicate 32 0 }

abbrev pub rom_at : StoredSlot → ℕ → Rom
rom_at s k = get_or s.roms k no_rom

-- X candidates and sizes as in a description
-- 01 Domain 2: the candidates of X1 and X2 are 0 to 47
-- 01 Domain 3: a ROM's size is at most 2^24 bytes
-- 01 Domain 9: X1 has not the same GPIO twice, nor has X2
-- 01 Domain 12: there are at most 4 ROMs and at most 64 overrides; what the layout and the maps hold is not tested here
unfoldable pub stored_in : StoredSlot → Bool
stored_in s =
    leb s.num_overrides 64 && (candidates_in s.x1 && candidates_in s.x2)
    && (leb s.num_roms 4 && each s.num_roms (λ k. leb (rom_at s k).chip_size (2 ^ 24)))

-- 01 Domain 16: a word has one byte in bit mode 0 and two in bit mode 1
abbrev pub word_bytes : StoredSlot → ℕ
word_bytes s = s.alg_dma.bit_mode + 1

abbrev pub addr_base : StoredSlot → ℕ
addr_base s = s.alg_addr.gpio_base + s.alg_addr.base_addr_pin

abbrev pub stored_data_base : StoredSlot → ℕ
stored_data_base s = s.alg_data.gpio_base + s.alg_data.base_data_pin

abbrev pub stored_select : StoredSlot → ℕ
stored_select s = s.alg_cs.gpio_base + s.alg_cs.first_rom_cs_base

abbrev pub stored_pins : StoredSlot → ℕ
stored_pins s = s.alg_addr.num_addr_pins

-- a GPIO of n from a base
abbrev pub within : ℕ → ℕ → ℕ → Bool
within base n gpio = leb base gpio && ltb (gpio - base) n

abbrev pub in_window : StoredSlot → ℕ → Bool
in_window s gpio = within (addr_base s) (stored_pins s) gpio

-- 01 unscramble 3: of n entries, as many count as stand before the first 255
-- 01 Shape 10: a 255 names no GPIO
unfoldable pub map_lines : ℕ → List ℕ → ℕ
map_lines zero l = 0
map_lines (suc n) l = cond (eqb (map_lines n l) n && not (eqb (get_or l n 255) 255)) (suc n) (map_lines n l)

abbrev pub addr_lines : Rom → ℕ
addr_lines r = map_lines 32 r.addr

abbrev pub data_lines : Rom → ℕ
data_lines r = map_lines 32 r.data_lines

abbrev pub addr_position : StoredSlot → ℕ → ℕ → ℕ
addr_position s rom k = get_or (rom_at s rom).addr k 0 - addr_base s

abbrev pub stored_data_position : StoredSlot → ℕ → ℕ → ℕ
stored_data_position s rom k = get_or (rom_at s rom).data_lines k 0 - stored_data_base s

-- 01 Number 22: passed by a pin that has one candidate in the window, and no second one there
abbrev pub one_inside : StoredSlot → Candidates → Bool
one_inside s Absent = false
one_inside s (One g) = in_window s g
one_inside s (Two g h) = (in_window s g && not (in_window s h)) || (in_window s h && not (in_window s g))

abbrev pub x_inside : StoredSlot → Candidates → ℕ
x_inside s Absent = 0
x_inside s (One g) = g
x_inside s (Two g h) = cond (in_window s g) g h

-- 01 Shape 10: the kinds of override that force a GPIO
abbrev pub force_low : ℕ
force_low = 2

abbrev pub force_high : ℕ
force_high = 3

-- whether one of the first n overrides names a GPIO by a kind
-- 01 Domain 12: an override's remainder by 64 is its GPIO, and the quotient its kind
unfoldable pub names : ℕ → List ℕ → ℕ → ℕ → Bool
names zero l kind gpio = false
names (suc n) l kind gpio = names n l kind gpio || (eqb (get_or l n 0 % 64) gpio && eqb (get_or l n 0 / 64) kind)

-- whether a bit may stand in an index
-- 01 Shape 10: kind 3 forces high and kind 2 low; kinds 0 and 1 force nothing
-- 01 unscramble 4: a bit has to be 1 where any override forces its position high, else 0 where any forces it low
abbrev pub allowed : StoredSlot → ℕ → ℕ → Bool
allowed s p b =
    cond (names s.num_overrides s.overrides force_high (addr_base s + p)) (eqb b 1)
    (cond (names s.num_overrides s.overrides force_low (addr_base s + p)) (eqb b 0) true)

-- 01 unscramble 7: an entry counts where no bit of its index is other than it is forced to be
unfoldable pub free : StoredSlot → ℕ → Bool
free s i = each (stored_pins s) (λ p. allowed s p (bit i p))
