-- The words of the ROMs, and what each entry says of them. Assumes nothing.
use Rattle.std.specs.Prelude.{ℕ, ◌*◌, Bool, false, ◌&&◌, List, ltb, eqb, Option, Some, None}
use Rattle.bits.specs.Bits.{gather, index_address}
use Rattle.words.specs.Words.{entry_word}
use Rattle.slot.specs.declared.description.ChipSetType.{ChipSetType}
use Rattle.picks.specs.Picks.{picks_of, picked_by}
use Rattle.stored_slot.specs.Words.{rom_words, stored_pick_position}
use Rattle.stored_slot.specs.Stored.{rom_at, word_bytes, addr_lines, addr_position, stored_data_position, free}
use Rattle.stored_slot.specs.declared.stored.StoredSlot.{StoredSlot}

-- 01 unscramble 6: the lines that pick a ROM are read as a build reads them
unfoldable pub rom_picked : StoredSlot → ChipSetType → ℕ → Option ℕ
rom_picked s set i = picked_by set s.num_roms (gather (picks_of set s.num_roms) (stored_pick_position s set) i)

-- the address that it has there
-- 01 unscramble 6: bit k of the address stands in the index at the position of address line k
unfoldable pub address_at : StoredSlot → ℕ → ℕ → ℕ
address_at s rom i = index_address (addr_lines (rom_at s rom)) (addr_position s rom) i

-- 01 unscramble 6: bit k of the value stands in the entry at the position of data line k
unfoldable pub value_at : StoredSlot → List ℕ → ℕ → ℕ → ℕ
value_at s stored rom i = gather (8 * word_bytes s) (stored_data_position s rom) (entry_word (word_bytes s) stored i)

-- whether it is this ROM that is picked
abbrev pub picks_rom : Option ℕ → ℕ → Bool
picks_rom None rom = false
picks_rom (Some k) rom = eqb k rom

-- whether an entry is for word n of a ROM
-- 01 unscramble 7: an entry is for no word where a forced bit differs, no ROM is picked, or its address is too high for the ROM
unfoldable pub serves : StoredSlot → ChipSetType → ℕ → ℕ → ℕ → Bool
serves s set rom n i =
    free s i && picks_rom (rom_picked s set i) rom && eqb (address_at s rom i) n && ltb n (rom_words s rom)
