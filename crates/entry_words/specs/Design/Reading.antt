-- Which word an entry is for, and what it says, by positions and extents. Assumes nothing.
use Rattle.std.specs.Prelude.{ℕ, ◌+◌, ◌*◌, ◌≤◌, ◌<◌, ◌^◌, cond, ◌&&◌, List, [], ltb, eqb, get_or}
use Rattle.std.specs.Int.Bits.{bit_and}
use Rattle.bits.specs.Bits.{gather}
use Rattle.words.specs.Words.{entry_word}
use Rattle.entry_words.specs.declared.Map.{Map}
use Rattle.entry_words.specs.declared.Extent.{Extent}
use Rattle.entry_words.specs.declared.Reading.{Reading}

-- what a map says of a number: its bits at the map's positions
abbrev pub no_map : Map
no_map = record { positions = []; lines = 0 }

unfoldable pub gathered : Map → ℕ → ℕ
gathered m i = gather m.lines (λ k. get_or m.positions k 0) i

abbrev pub part_by : List Map → ℕ → ℕ → ℕ
part_by maps k i = gathered (get_or maps k no_map) i

-- the place that an index picks, the address that it has there, and the extent of that place
abbrev pub rom_by : Reading → ℕ → ℕ
rom_by r i = get_or r.roms (part_by r.address 4 i) 0

abbrev pub address_by : Reading → ℕ → ℕ
address_by r i = part_by r.address (rom_by r i) i

abbrev pub no_extent : Extent
no_extent = record { start = 0; words = 0 }

abbrev pub extent_by : Reading → ℕ → Extent
extent_by r i = get_or r.extents (rom_by r i) no_extent

-- the word that entry i is for; the number of all words where it is for none
-- an entry is for no word where a forced bit differs, or its address is not below the words of the place it picks
unfoldable pub word_by : Reading → ℕ → ℕ
word_by r i =
    cond (eqb (bit_and i r.forced) r.forced_high && ltb (address_by r i) (extent_by r i).words) ((extent_by r i).start + address_by r i) r.words

-- what it says
unfoldable pub value_by : Reading → List ℕ → ℕ → ℕ
value_by r stored i = part_by r.data_lines (rom_by r i) (entry_word r.word_bytes stored i)

-- one of the five maps has no more lines than there is room for
pub record MapIn (maps : List Map) (k : ℕ) : Type 0 where
  pub within : k < 5
  pub lines : (get_or maps k no_map).lines ≤ 32

-- so have all
abbrev pub MapsIn : List Map → Type 0
MapsIn maps = (k : ℕ) → k < 5 → (get_or maps k no_map).lines ≤ 32

pub record ReadingIn (r : Reading) : Type 0 where
  pub bytes : r.word_bytes ≤ 2
  pub address-lines : MapsIn r.address
  -- at most three lines pick, and they pick one of the five places
  pub picks : (get_or r.address 4 no_map).lines ≤ 3
  pub places : (bits : ℕ) → bits < 8 → get_or r.roms bits 0 < 5
  -- a value is a word
  pub data-lines : (k : ℕ) → k < 5 → (get_or r.data_lines k no_map).lines ≤ 8 * r.word_bytes
  -- each place's words are among all
  pub extents : (k : ℕ) → k < 5 → (get_or r.extents k no_extent).start + (get_or r.extents k no_extent).words ≤ r.words
  pub few : r.words ≤ 2 ^ 26
