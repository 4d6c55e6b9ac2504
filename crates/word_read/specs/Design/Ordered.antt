-- The reading of a ROM whose entries are in order. Assumes nothing.
use Rattle.std.specs.Prelude.{ℕ, ◌+◌, ◌*◌, ◌≤◌, ◌<◌, List, length, get_or}
use Rattle.lists.specs.Tab.{tab}
use Rattle.bits.specs.Bits.{scatter}
use Rattle.words.specs.Words.{entry_word}
use Rattle.entry_words.specs.Design.Reading.{gathered}
use Rattle.entry_words.specs.declared.Map.{Map}
use Rattle.rom_turns.specs.Design.Rom.{RomIn, TurnIn, rom_index, turn_start}
use Rattle.rom_turns.specs.declared.Rom.{Rom}

-- what an entry says, by the data lines
abbrev pub rom_value : Rom → List ℕ → Map → List ℕ → ℕ → ℕ
rom_value rom positions data-map stored e = gathered data-map (entry_word rom.word_bytes stored (rom_index rom positions e))

-- where the low bits of an order stand
abbrev pub lows_of : Rom → List ℕ → List ℕ
lows_of rom positions = tab 256 (λ q. scatter rom.lines (λ k. get_or positions k 0) rom.pins q)

-- what the reading of a ROM in order is given
pub record InOrder (rom : Rom) (order data-map : Map) (stored output : List ℕ) : Type 0 where
  pub rom_in : RomIn rom stored
  pub data-lines : data-map.lines ≤ 32
  pub some : 0 < rom.turns
  pub turns : (c : ℕ) → c < rom.turns → TurnIn rom order.positions (lows_of rom order.positions) (turn_start rom c)
  pub room : (rom.start + rom.words) * rom.word_bytes ≤ length output
