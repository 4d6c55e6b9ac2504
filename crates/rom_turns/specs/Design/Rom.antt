-- A ROM's words, by turns: a turn has one entry for each word. Assumes nothing.
use Rattle.std.specs.Prelude.{◌≡◌, ◌⊎◌, ℕ, ◌+◌, ◌*◌, ◌%◌, ◌^◌, ◌≤◌, ◌<◌, List, length, get_or}
use Rattle.std.specs.Int.Bits.{bit_or}
use Rattle.words.specs.Words.{word, entry_word}
use Rattle.word_rows.specs.Design.Wrote.{Tables, said_by}
use Rattle.index_order.specs.Design.Order.{index_of}
use Rattle.rom_turns.specs.declared.Rom.{Rom}

-- the index whose bits in order are e
abbrev pub rom_index : Rom → List ℕ → ℕ → ℕ
rom_index rom positions e = index_of rom.lines (λ k. get_or positions k 0) rom.high rom.pins e

-- what the entry there says, by the tables of its bytes
abbrev pub says : Rom → List ℕ → List ℕ → List ℕ → List ℕ → ℕ → ℕ
says rom positions low-bytes high-bytes stored e = said_by low-bytes high-bytes (entry_word rom.word_bytes stored (rom_index rom positions e))

-- the numbers of a ROM fit, and its entries are stored
pub record RomIn (rom : Rom) (stored : List ℕ) : Type 0 where
  pub width : (rom.word_bytes ≡ 1) ⊎ (rom.word_bytes ≡ 2)
  pub lines : rom.lines ≤ 31
  pub pins : rom.pins ≤ 31
  pub high : rom.high < 2 ^ rom.pins
  pub stored_in : 2 ^ rom.pins * rom.word_bytes ≤ length stored
  pub few : rom.start + rom.words ≤ 2 ^ 27
  pub some : 0 < rom.words

-- a turn: its order fits, and its rows are told by their low bits
pub record TurnIn (rom : Rom) (positions lows : List ℕ) (e : ℕ) : Type 0 where
  pub few : (a : ℕ) → a < rom.words → e + a < 2 ^ 31
  pub joins : (f q : ℕ) → f % 256 ≡ 0 → q < 256 → f + q < rom.words
      → rom_index rom positions (e + (f + q)) ≡ bit_or (rom_index rom positions (e + f)) (get_or lows q 0)

-- what a loop over a turn's rows is given
pub record Turn (rom : Rom) (positions lows low-bytes high-bytes stored output : List ℕ) (e : ℕ) : Type 0 where
  pub rom_in : RomIn rom stored
  pub tables : Tables lows low-bytes high-bytes
  pub turn : TurnIn rom positions lows e
  pub room : (rom.start + rom.words) * rom.word_bytes ≤ length output

-- where a turn starts in the order
abbrev pub turn_start : Rom → ℕ → ℕ
turn_start rom c = c * rom.span + rom.first

-- the words that stand are what a turn's entries say
abbrev pub SameTurn : Rom → (ℕ → ℕ) → List ℕ → ℕ → Type 0
SameTurn rom f output n = (a : ℕ) → a < n → word rom.word_bytes output (rom.start + a) ≡ f a
