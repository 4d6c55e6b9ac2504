-- A ROM whose words have entries of their own. Assumes nothing.
use Rattle.std.specs.Prelude.{◌≡◌, ℕ, ◌+◌, ◌-◌, ◌*◌, ◌^◌, ◌≤◌, ◌<◌, List, get_or}
use Rattle.index_order.specs.Design.Order.{Fits, at}
use Rattle.entry_words.specs.declared.Map.{Map}
use Rattle.entry_words.specs.declared.Extent.{Extent}
use Rattle.rom_turns.specs.declared.Rom.{Rom}

-- one value of the bits that pick, of so many, picks a place
pub record Only (roms : List ℕ) (n k b : ℕ) : Type 0 where
  pub picked : get_or roms b 0 ≡ k
  pub below : b < n
  pub one : (j : ℕ) → j < n → get_or roms j 0 ≡ k → j ≡ b

-- a ROM's words have entries of their own
pub record Suits (map picks order : Map) (extent : Extent) (roms : List ℕ) (k b m forced high pins : ℕ) : Type 0 where
  pub lines : order.lines ≤ 31
  pub fits : Fits order.lines (at order) forced high pins
  pub only : Only roms (2 ^ picks.lines) k b
  pub start : extent.start ≡ m
  pub words : extent.words ≤ 2 ^ map.lines

-- the numbers of a ROM whose entries are in order
abbrev pub rom_of : Map → Map → Map → ℕ → Extent → ℕ → ℕ → ℕ → Rom
rom_of map picks order b extent pins high w = record {
  lines = order.lines;
  pins = pins;
  high = high;
  first = b * 2 ^ map.lines;
  span = 2 ^ (picks.lines + map.lines);
  turns = 2 ^ (order.lines - (picks.lines + map.lines));
  start = extent.start;
  words = extent.words;
  word_bytes = w;
}
