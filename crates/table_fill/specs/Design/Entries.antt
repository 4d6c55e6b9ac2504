-- How a table is filled: positions of the lines, where the words of the chips stand, and an entry by them. What an entry holds is not
-- defined by it, but by rom_image's `entry_at`, and that both say the same is proved there. Assumes nothing.
use Rattle.std.specs.Prelude.{◌≡◌, ℕ, ◌+◌, ◌*◌, ◌%◌, ◌^◌, ◌≤◌, ◌<◌, true, false, cond, List, ◌++◌, ltb, length, drop, get_or}
use Rattle.bits.specs.Bits.{gather, index_address, scatter}
use Rattle.words.specs.Words.{chip_word_from, entries_bytes}
use Rattle.words.specs.declared.ByteOrder.{ByteOrder}
use Rattle.table_fill.specs.declared.wiring.Wiring.{Wiring}
use Rattle.table_fill.specs.declared.wiring.Part.{Part}
use Rattle.table_fill.specs.declared.sources.Source.{Source}

-- no more lines than there is room for
pub record WiringIn (w : Wiring) : Type 0 where
  pub lines : w.num_lines ≤ 24
  pub picks : w.num_picks ≤ 3
  pub data-lines : w.num_data ≤ 16
  pub bytes : w.word_bytes ≤ 2

-- what an index, or a part of one, says: the chip address, and the bits of the lines that pick
-- bit k of the address is the index bit at the position of line k
abbrev pub part_of : Wiring → ℕ → Part
part_of w i = record {
  address = index_address w.num_lines (λ k. get_or w.address k 0) i;
  picks = gather w.num_picks (λ k. get_or w.picks k 0) i;
}

-- bit k of a word goes to the position of data line k, if that is below 8w
abbrev pub scrambled_by : Wiring → ℕ → ℕ
scrambled_by w v = scatter w.num_data (λ k. get_or w.data_lines k 0) (8 * w.word_bytes) v

-- where a chip's words stand in the lent bytes
-- where there is no chip there is no word, so that every address gives the pad
abbrev pub no_source : Source
no_source = record { start = 0; count = 0; mirrored = false }

-- its words are in the lent bytes, and there are some to read again where it is mirrored
pub record SourceIn (images : List ℕ) (w : ℕ) (s : Source) : Type 0 where
  pub within : (n : ℕ) → n < s.count → s.start + n * w + w ≤ length images
  pub some : s.mirrored ≡ true → 0 < s.count

-- the sources that the bits of the picking lines can name
abbrev pub SourcesIn : List ℕ → Wiring → List Source → Type 0
SourcesIn images w sources = (bits : ℕ) → bits < 2 ^ w.num_picks → SourceIn images w.word_bytes (get_or sources bits no_source)

-- the word at an address of a source
-- an address that is not below the count starts over, modulo the count, where the source is mirrored, and gives
-- the pad where it is not
abbrev pub raw_from : ByteOrder → List ℕ → ℕ → Source → ℕ → ℕ → ℕ
raw_from order images w s pad n =
    cond (ltb n s.count) (chip_word_from order w images (s.start + n * w))
    (cond s.mirrored (chip_word_from order w images (s.start + n % s.count * w)) pad)

-- what one word takes: its source, and a pad that is a word
pub record RawIn (images : List ℕ) (w : ℕ) (s : Source) (pad : ℕ) : Type 0 where
  pub bytes : w ≤ 2
  pub source_in : SourceIn images w s
  pub pad_short : pad < 2 ^ (8 * w)

-- an entry by positions and sources
unfoldable pub entry_by : ByteOrder → Wiring → List Source → ℕ → List ℕ → ℕ → ℕ
entry_by order w sources pad images i =
    scrambled_by w (raw_from order images w.word_bytes (get_or sources (part_of w i).picks no_source) pad (part_of w i).address)

-- the first entries at the front of a buffer, low byte first
-- behind the entries the buffer keeps what it held
abbrev pub table_by : ByteOrder → Wiring → List Source → ℕ → List ℕ → ℕ → List ℕ → List ℕ
table_by order w sources pad images entries old =
    entries_bytes w.word_bytes (entry_by order w sources pad images) entries ++ drop (entries * w.word_bytes) old

-- what a table takes: positions, sources and a pad that is a word, and room for its entries
pub record Filling (w : Wiring) (sources : List Source) (pad : ℕ) (images : List ℕ) (entries : ℕ) (table : List ℕ) : Type 0 where
  pub wiring_in : WiringIn w
  pub sources_in : SourcesIn images w sources
  pub pad_short : pad < 2 ^ (8 * w.word_bytes)
  pub few : entries ≤ 2 ^ 20
  pub room : entries * w.word_bytes ≤ length table
