-- What read-back is given beside a table that was built, line by line; and lines that are told apart. Assumes nothing.
use mathlib.Core.Path.{◌≡◌}
use mathlib.Core.Bool.{true, cond}
use Prim.Native.Nat.{ℕ, ◌+◌, ◌-◌, ◌*◌, ◌<◌}
use lib.Dec.{ltb}
use lib.ListN.{get_or}
use Rattle.slot.specs.Description.{no_chip}
use Rattle.slot.specs.declared.description.Description.{Description}
use Rattle.addr_layout.specs.declared.layout.AddrLayout.{AddrLayout}
use Rattle.cs_data_layout.specs.declared.layout.CsDataLayout.{CsDataLayout}
use Rattle.build_args.specs.Positions.{line_position, data_position}
use Rattle.build_args.specs.Picks.{num_picks, pick_position}
use Rattle.stored_slot.specs.Stored as stored
use Rattle.stored_slot.specs.Words as sizes
use Rattle.unscramble.specs.Words as read
use Rattle.stored_slot.specs.declared.stored.StoredSlot.{StoredSlot}

-- read-back is given the chips, sizes and w of the build, and its positions are the layouts'
pub record Fitted (d : Description) (a : AddrLayout) (c : CsDataLayout) (s : StoredSlot) : Type 0 where
  pub chips : s.num_roms ≡ d.num_chips
  pub bytes : stored.word_bytes s ≡ d.word_bytes
  pub pins : stored.stored_pins s ≡ a.num_addr_pins
  pub size : (k : ℕ) → k < d.num_chips → (stored.rom_at s k).chip_size ≡ (get_or d.chips k no_chip).size
  pub lines : (k : ℕ) → k < d.num_chips → stored.addr_lines (stored.rom_at s k) ≡ a.num_lines
  pub line : (k n : ℕ) → k < d.num_chips → n < a.num_lines → stored.addr_position s k n ≡ line_position a n
  pub data-line : (k n : ℕ) → k < d.num_chips → n < c.num_data_pins → stored.stored_data_position s k n ≡ data_position c n
  pub pick : (k : ℕ) → k < num_picks d → sizes.stored_pick_position s d.set_type k ≡ pick_position d a c k
  pub unforced : (i : ℕ) → stored.free s i ≡ true

-- the index's lines: those in use, then those that pick
abbrev pub index_position : Description → AddrLayout → CsDataLayout → ℕ → ℕ
index_position d a c k = cond (ltb k a.num_lines) (line_position a k) (pick_position d a c (k - a.num_lines))

-- each line has a position of its own: in the index's window, and in the entry's word
pub record ToldApart (d : Description) (a : AddrLayout) (c : CsDataLayout) : Type 0 where
  pub index_in : (k : ℕ) → k < a.num_lines + num_picks d → index_position d a c k < a.num_addr_pins
  pub index_own : (j k : ℕ) → j < a.num_lines + num_picks d → k < a.num_lines + num_picks d
      → index_position d a c j ≡ index_position d a c k → j ≡ k
  pub data-lines : c.num_data_pins ≡ 8 * d.word_bytes
  pub data_in : (k : ℕ) → k < c.num_data_pins → data_position c k < 8 * d.word_bytes
  pub data-own : (j k : ℕ) → j < c.num_data_pins → k < c.num_data_pins → data_position c j ≡ data_position c k → j ≡ k
