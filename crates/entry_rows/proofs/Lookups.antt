-- What is looked up of an entry in a row: the tables of its low eight bits and the row's own answer join to what the whole index
-- says, and the tables of an entry's bytes to what the whole entry says. Assumes nothing.
use mathlib.Core.Path.{◌≡◌, ◌∙◌}
use mathlib.Core.Bool.{cond, ◌&&◌}
use mathlib.Core.List.{List}
use Prim.Native.Nat.{ℕ, ◌+◌, ◌*◌, ◌/◌, ◌%◌, ◌^◌, ◌≤◌, ◌<◌}
use native.Mathlib.Nat.{mul-one}
use native.Mathlib.Omega.{arith}
use lib.Bits.{bit_and}
use lib.Dec.{ltb, eqb}
use lib.ListN.{length, get_or}
use Rattle.lists.proofs.Tab.{tab-length, get_or-tab}
use Rattle.bits.proofs.Gathered.{gather-row}
use Rattle.words.specs.Words.{word}
use Rattle.words.proofs.Words.{word-short}
use Rattle.entry_words.proofs.Bounds.{bits-few, place, address-few, value_few}
use Rattle.entry_words.specs.Design.Reading.{gathered, no_map, part_by, rom_by, address_by, no_extent, word_by, value_by, ReadingIn}
use Rattle.entry_rows.specs.Design.Rows.{byte_tables, TablesIn, RowIn}
use Rattle.entry_words.specs.declared.Map.{Map}
use Rattle.entry_words.specs.declared.Reading.{Reading}
use Rattle.entry_rows.specs.declared.Row.{Row}

-- a map's answer in rows
gathered-row : (m : Map) (i : ℕ) → gathered m (i % 256) + gathered m (i / 256 * 256) ≡ gathered m i
unfolding gathered
gathered-row m i = gather-row m.lines (λ k. get_or m.positions k 0) i

-- an entry of a table of eight bits
table_at : (maps : List Map) (unit k q : ℕ) → k < 5 → q < 256 → get_or (byte_tables maps unit) (k * 256 + q) 0 ≡ part_by maps k (q * unit)
table_at maps unit k q h l =
    let high : (k * 256 + q) / 256 ≡ k = omega arith in
    let low : (k * 256 + q) % 256 ≡ q = omega arith in
    get_or-tab (λ j. part_by maps (j / 256) (j % 256 * unit)) 1280 (k * 256 + q) 0 (omega arith) ∙ rw (high, low)

-- what is said of an index, as it is looked up
abbrev pub bits_found : Row → List ℕ → ℕ → ℕ
bits_found row lows low = get_or lows (1024 + low) 0 + get_or row.high 4 0

abbrev pub rom_found : Reading → Row → List ℕ → ℕ → ℕ
rom_found r row lows low = get_or r.roms (bits_found row lows low) 0

abbrev pub address_found : Reading → Row → List ℕ → ℕ → ℕ
address_found r row lows low = get_or lows (rom_found r row lows low * 256 + low) 0 + get_or row.high (rom_found r row lows low) 0

abbrev pub value_found : List ℕ → List ℕ → ℕ → ℕ → ℕ
value_found low-bytes high-bytes rom entry = get_or low-bytes (rom * 256 + entry % 256) 0 + get_or high-bytes (rom * 256 + entry / 256) 0

-- an index of a row
pub record Looked (r : Reading) (row : Row) (lows low-bytes high-bytes : List ℕ) (low : ℕ) : Type 0 where
  pub reading : ReadingIn r
  pub few : row.start + row.count ≤ 2 ^ 31
  pub in_row : RowIn r row
  pub tables : TablesIn r lows low-bytes high-bytes
  pub within : low < row.count

module _ {r : Reading} {row : Row} {lows low-bytes high-bytes : List ℕ} {low : ℕ} (h : Looked r row lows low-bytes high-bytes low) where
  abbrev index : ℕ
  index = row.start + low

  -- how many there are
  pub index_few : index < 2 ^ 31
  index_few = omega (arith, h.within, h.few)

  pub low-few : low < 256
  low-few = omega (arith, h.within, h.in_row.count)

  pub lows_long : length lows ≡ 1280
  lows_long = rw h.tables.low (tab-length _ 1280)

  pub low_bytes_long : length low-bytes ≡ 1280
  low_bytes_long = rw h.tables.low_byte (tab-length _ 1280)

  pub high_bytes_long : length high-bytes ≡ 1280
  high_bytes_long = rw h.tables.high_byte (tab-length _ 1280)

  joined : (k : ℕ) → k < 5 → get_or lows (k * 256 + low) 0 + get_or row.high k 0 ≡ part_by r.address k index
  joined k b =
      let l = low-few in
      let least : index % 256 ≡ low = omega (arith, h.in_row.start) in
      let first : index / 256 * 256 ≡ row.start = omega (arith, h.in_row.start) in
      let e = table_at r.address 1 k low b l in
      let f = get_or-tab (λ j. part_by r.address j row.start) 5 k 0 b in
      rw (h.tables.low, h.in_row.high, e, f, mul-one) (rw (least, first) at (gathered-row (get_or r.address k no_map) index))

  -- the bits that pick
  pub bits_looked : bits_found row lows low ≡ part_by r.address 4 index
  bits_looked = joined 4 (omega arith)

  pub bits_in : bits_found row lows low < 8
  bits_in = rw bits_looked (bits-few h.reading index)

  -- the place
  pub rom_looked : rom_found r row lows low ≡ rom_by r index
  rom_looked = rw bits_looked

  pub rom_in : rom_found r row lows low < 5
  rom_in = rw rom_looked (place h.reading index)

  -- the address
  pub address_looked : address_found r row lows low ≡ address_by r index
  address_looked = joined (rom_found r row lows low) rom_in ∙ rw rom_looked

  pub address_in : address_found r row lows low < 2 ^ 32
  address_in = rw address_looked (address-few h.reading index)

  -- the word that the entry is for
  pub word_looked : (rom address : ℕ) → rom ≡ rom_found r row lows low → address ≡ address_found r row lows low
      → cond (eqb (bit_and index r.forced) r.forced_high && ltb address (get_or r.extents rom no_extent).words) ((get_or r.extents rom no_extent).start + address) r.words ≡ word_by r index
  unfolding word_by
  word_looked rom address e f = rw (e ∙ rom_looked, f ∙ address_looked)

  -- what the entry says
  module _ (stored : List ℕ) (entry : ℕ) (e : entry ≡ word r.word_bytes stored index) (b : entry < 2 ^ 16) where
    pub value_looked : value_found low-bytes high-bytes (rom_found r row lows low) entry ≡ value_by r stored index
    unfolding value_by
    value_looked =
        let rom = rom_found r row lows low in
        let least = table_at r.data_lines 1 rom (entry % 256) rom_in (omega arith) in
        let rest = table_at r.data_lines 256 rom (entry / 256) rom_in (omega arith) in
        rw (h.tables.low_byte, h.tables.high_byte, least, rest, mul-one)
        (gathered-row (get_or r.data_lines rom no_map) entry ∙ rw (rom_looked, e))

    pub value_in : value_found low-bytes high-bytes (rom_found r row lows low) entry < 2 ^ 32
    value_in = rw value_looked (omega (arith, word-short r.word_bytes _ h.reading.bytes (value_few h.reading stored index)))
