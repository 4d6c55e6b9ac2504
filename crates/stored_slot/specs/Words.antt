-- How many words the ROMs have, and which lines pick a ROM. Assumes nothing.
use Rattle.std.specs.Prelude.{ℕ, zero, suc, ◌+◌, ◌-◌, ◌/◌, ◌^◌, min, cond, eqb}
use Rattle.slot.specs.declared.description.ChipSetType.{ChipSetType}
use Rattle.slot.specs.declared.description.ChipSetType.TheVariants.{Single, Banked, Multi}
use Rattle.stored_slot.specs.Stored.{rom_at, word_bytes, addr_base, stored_select, addr_lines, x_inside}
use Rattle.stored_slot.specs.declared.stored.StoredSlot.{StoredSlot}

-- 01 unscramble 5: a ROM has as many words as fit whole into its size, but no more than its lines can address
abbrev pub rom_words : StoredSlot → ℕ → ℕ
rom_words s k = min ((rom_at s k).chip_size / word_bytes s) (2 ^ addr_lines (rom_at s k))

-- the words of the ROMs before ROM n, and of all
unfoldable pub words_before : StoredSlot → ℕ → ℕ
words_before s zero = 0
words_before s (suc n) = words_before s n + rom_words s n

abbrev pub all_words : StoredSlot → ℕ
all_words s = words_before s s.num_roms

-- the lines that pick a ROM: Banked X1, X2; Multi the first ROM's select, X1, X2
abbrev pub x_at : StoredSlot → ℕ → ℕ
x_at s k = cond (eqb k 0) (x_inside s s.x1) (x_inside s s.x2)

abbrev pub pick_gpio : StoredSlot → ChipSetType → ℕ → ℕ
pick_gpio s Single k = 0
pick_gpio s Banked k = x_at s k
pick_gpio s Multi zero = stored_select s
pick_gpio s Multi (suc k) = x_at s k

abbrev pub stored_pick_position : StoredSlot → ChipSetType → ℕ → ℕ
stored_pick_position s set k = pick_gpio s set k - addr_base s

-- the ROM that an index picks
