-- What the entries are read by, of a stored slot: positions, extents, forced bits. That this comes to what Words says is proved. Assumes
-- nothing.
use Rattle.std.specs.Prelude.{ℕ, ◌-◌, ◌^◌, ◌≤◌, ◌<◌, cond, List, ltb, get_or, replicate, Option, Some, None}
use Rattle.lists.specs.Tab.{tab}
use Rattle.slot.specs.declared.description.ChipSetType.{ChipSetType}
use Rattle.picks.specs.Picks.{picks_of, picked_by}
use Rattle.words.specs.declared.ByteOrder.{ByteOrder}
use Rattle.dump_lines.specs.Design.Lines.{ordered_map}
use Rattle.entry_words.specs.declared.Map.{Map}
use Rattle.entry_words.specs.declared.Extent.{Extent}
use Rattle.entry_words.specs.declared.Reading.{Reading}
use Rattle.stored_slot.specs.Stored.{rom_at, word_bytes, addr_base, stored_data_base, stored_pins, map_lines}
use Rattle.stored_slot.specs.Words.{rom_words, words_before, all_words, pick_gpio, stored_pick_position}
use Rattle.stored_slot.specs.declared.stored.StoredSlot.{StoredSlot}
use Rattle.forced_bits.specs.Design.Forced.{mask_of, high_at, forced_at}

-- a slot that no test before the entries refuses: its numbers fit
pub record Readable (s : StoredSlot) (set : ChipSetType) : Type 0 where
  pub pins : stored_pins s < 32
  pub bytes : word_bytes s ≤ 2
  pub addr-base : addr_base s ≤ 255
  pub data-base : stored_data_base s ≤ 255
  pub pick : (k : ℕ) → pick_gpio s set k ≤ 255
  pub words : all_words s ≤ 2 ^ 26

-- a ROM's lines, from a base
abbrev pub read_map : List ℕ → ℕ → Map
read_map gpios base = record { positions = tab 32 (λ k. get_or gpios k 0 - base); lines = map_lines 32 gpios }

-- the lines that pick
abbrev pub pick_map : StoredSlot → ChipSetType → Map
pick_map s set = record { positions = tab 32 (λ k. cond (ltb k 3) (stored_pick_position s set k) 0); lines = picks_of set s.num_roms }

abbrev pub no_lines : Map
no_lines = record { positions = replicate 32 0; lines = 0 }

-- those of a place; past the last ROM there are none
abbrev pub place_map : ℕ → ℕ → List ℕ → ℕ → Map
place_map roms k gpios base = cond (ltb k roms) (read_map gpios base) no_lines

abbrev pub address_map : StoredSlot → ChipSetType → ℕ → Map
address_map s set k = cond (ltb k 4) (place_map s.num_roms k (rom_at s k).addr (addr_base s)) (pick_map s set)

-- the data lines are read in the order of the dump's bytes
abbrev pub data_map : ByteOrder → StoredSlot → ℕ → Map
data_map order s k = ordered_map order (place_map s.num_roms k (rom_at s k).data_lines (stored_data_base s))

-- the place of a ROM; the fifth for none
abbrev pub rom_place : Option ℕ → ℕ
rom_place None = 4
rom_place (Some k) = k

-- a ROM's words among all
abbrev pub extent_of : StoredSlot → ℕ → Extent
extent_of s k = cond (ltb k s.num_roms) (record { start = words_before s k; words = rom_words s k }) (record { start = 0; words = 0 })

unfoldable pub reading_of : ByteOrder → StoredSlot → ChipSetType → Reading
reading_of order s set = record {
  address = tab 5 (address_map s set);
  data_lines = tab 5 (data_map order s);
  roms = tab 8 (λ bits. rom_place (picked_by set s.num_roms bits));
  extents = tab 5 (extent_of s);
  forced = mask_of (stored_pins s) (forced_at s);
  forced_high = mask_of (stored_pins s) (high_at s);
  word_bytes = word_bytes s;
  words = all_words s;
}
