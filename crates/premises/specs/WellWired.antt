-- A well wired slot as document 01 has it, sentence by sentence: the slot, and what read-back is given. Assumes nothing.
use Rattle.std.specs.Prelude.{◌≡◌, true, false, ℕ, ◌+◌, ◌*◌, ◌≤◌, ◌<◌, get_or, Some}
use Rattle.gpio.specs.Candidates.{two}
use Rattle.gpio.specs.declared.candidates.Candidates.{Candidates}
use Rattle.slot.specs.Description.{is_single, is_multi, chip0, no_chip}
use Rattle.slot.specs.declared.description.Board.{Board}
use Rattle.slot.specs.declared.description.Description.{Description}
use Rattle.listing.specs.Listing.{candidates_at}
use Rattle.listing.specs.Choice.{CandidateOf}
use Rattle.listing.specs.Lines.{kind_pin, pin_candidates}
use Rattle.addr_lines.specs.Lines.{first_pin}
use Rattle.addr_lines.specs.Range.{in_range}
use Rattle.addr_law.specs.Law.{InWindow}
use Rattle.addr_layout.specs.declared.layout.AddrLayout.{AddrLayout}
use Rattle.cs_data_layout.specs.Choices.{num_data}
use Rattle.cs_data_layout.specs.declared.layout.CsDataLayout.{CsDataLayout}
use Rattle.build_args.specs.Positions as build
use Rattle.build_args.specs.Picks.{first_select}
use Rattle.build_args.specs.Faults.{table_size}
use Rattle.stored_slot.specs.Stored as stored
use Rattle.stored_slot.specs.declared.stored.SlotType.TheVariants.{Roms}
use Rattle.stored_slot.specs.declared.stored.StoredSlot.{StoredSlot}

-- a place of the socket, or an X pin
pub data BoardPin : Type 0 where
  socket : ℕ → BoardPin
  x1 : BoardPin
  x2 : BoardPin

abbrev pub candidates_of : Board → BoardPin → Candidates
candidates_of b (socket s) = candidates_at b s
candidates_of b x1 = b.x1
candidates_of b x2 = b.x2

-- 01 Well wired 2: pins of a board are the socket's places from 1 to its number of pins, X1 and X2
abbrev pub PinOf : Board → BoardPin → Type 0
PinOf b (socket s) = (1 ≤ s) × (s ≤ b.pins)
PinOf b x1 = Unit {0}
PinOf b x2 = Unit {0}

-- 01 Well wired 2: pins of the board that have a candidate in common are one pin
abbrev pub Unshared : Board → Type 0
Unshared b =
    (p q : BoardPin) (g : ℕ) → PinOf b p → PinOf b q → CandidateOf (candidates_of b p) g → CandidateOf (candidates_of b q) g → p ≡ q

-- the chip's pin of line n, and of data line n
abbrev pub address_pin : Description → ℕ → ℕ
address_pin d n = get_or (chip0 d).address_pins (first_pin d + n) 0

abbrev pub data_pin : Description → ℕ → ℕ
data_pin d n = get_or (chip0 d).data_pins n 0

abbrev pub select_pin : Description → ℕ
select_pin d = kind_pin d d.multi.select

-- 01 Well wired 7: a candidate of the pin is in the window of the address layout, and no other is
pub record OneInside (a : AddrLayout) (c : Candidates) : Type 0 where
  pub gpio : ℕ
  pub candidate : CandidateOf c gpio
  pub inside : InWindow a gpio
  pub only : (g : ℕ) → CandidateOf c g → InWindow a g → g ≡ gpio

pub record WellWired (d : Description) (a : AddrLayout) : Type 0 where
  pub unshared : Unshared d.board
  -- 01 Well wired 1: an address line is in use where its number is below inRange
  -- 01 Well wired 3: no two address lines in use share a chip pin
  pub lines-apart : (j k : ℕ) → j < in_range d → k < in_range d → address_pin d j ≡ address_pin d k → j ≡ k
  -- 01 Well wired 3: in Multi no address line in use shares the chip pin of the select
  pub select_apart : is_multi d.set_type ≡ true → (k : ℕ) → k < in_range d → address_pin d k ≡ select_pin d → ⊥
  -- 01 Well wired 4: no two data lines share a chip pin
  pub data-apart : (j k : ℕ) → j < num_data d → k < num_data d → data_pin d j ≡ data_pin d k → j ≡ k
  -- 01 Well wired 4: the chip has 8w data lines
  pub data-lines : num_data d ≡ 8 * d.word_bytes
  -- 01 Well wired 5: the pin of a Multi select does not have two candidates
  pub select-one : is_multi d.set_type ≡ true → two (pin_candidates d (select_pin d)) ≡ false
  -- 01 Well wired 6: in Multi the list of qualifiers is empty
  pub no_qualifiers : is_multi d.set_type ≡ true → ◌≡◌ {A = ℕ} d.num_qualifiers 0
  -- 01 Well wired 7: X1 is OneInside in Banked and in Multi
  pub x1-inside : is_single d.set_type ≡ false → OneInside a d.board.x1
  -- 01 Well wired 7: X2 is OneInside in Banked and in Multi from three chips on
  pub x2-inside : is_single d.set_type ≡ false → 3 ≤ d.num_chips → OneInside a d.board.x2

-- 01 Well wired 11: ROM k has the size of chip k
-- 01 Well wired 12: ROM k has a map, which lists the GPIOs of the address lines in use, and those of the data lines
pub record Mapped (d : Description) (a : AddrLayout) (c : CsDataLayout) (s : StoredSlot) (k : ℕ) : Type 0 where
  pub map : (stored.rom_at s k).has_map ≡ true
  pub size : (stored.rom_at s k).chip_size ≡ (get_or d.chips k no_chip).size
  pub lines : stored.addr_lines (stored.rom_at s k) ≡ a.num_lines
  pub line : (n : ℕ) → n < a.num_lines → get_or (stored.rom_at s k).addr n 0 ≡ get_or a.gpios n 0
  pub data-lines : stored.data_lines (stored.rom_at s k) ≡ c.num_data_pins
  pub data-line : (n : ℕ) → n < c.num_data_pins → get_or (stored.rom_at s k).data_lines n 0 ≡ get_or c.data_pin_gpios n 0

-- 01 Well wired 11: there is a layout; set kind, number of ROMs, bytes of a word and X candidates agree with the description; each
-- ROM is as Mapped says; the address, the data and the DMA algorithm are known ones; the declared size is that of the table
-- 01 Well wired 12: the base and the number of address pins agree with the address layout, the data base with the select layout
pub record StoredAs (d : Description) (a : AddrLayout) (c : CsDataLayout) (s : StoredSlot) : Type 0 where
  pub set_type : s.slot_type ≡ Roms d.set_type
  pub layout : s.has_layout ≡ true
  pub alg_addr : ◌≡◌ {A = ℕ} s.alg_addr.alg 0
  pub alg_data : s.alg_data.alg ≤ 1
  pub alg_dma : ◌≡◌ {A = ℕ} s.alg_dma.alg 0
  pub word_bytes : stored.word_bytes s ≡ d.word_bytes
  pub size : s.size ≡ table_size d a
  pub x1 : s.x1 ≡ d.board.x1
  pub x2 : s.x2 ≡ d.board.x2
  pub addr-base : stored.addr_base s ≡ a.gpio_base
  pub pins : stored.stored_pins s ≡ a.num_addr_pins
  pub data-base : stored.stored_data_base s ≡ build.data_base c
  pub roms : s.num_roms ≡ d.num_chips
  pub rom : (k : ℕ) → k < d.num_chips → Mapped d a c s k
  -- 01 Well wired 12: in Multi the select algorithm is AlgCs0
  pub alg_cs : is_multi d.set_type ≡ true → ◌≡◌ {A = ℕ} s.alg_cs.alg 0
  -- 01 Well wired 12: in Multi the select is at the GPIO of the first select line
  pub select : is_multi d.set_type ≡ true → first_select c ≡ Some (stored.stored_select s)
  -- no more overrides than there is room for
  pub overrides : s.num_overrides ≤ 64

-- 01 Well wired 10: of the GPIOs in the address window none is forced low (kind 2) or high (kind 3)
abbrev pub Unforced : AddrLayout → StoredSlot → Type 0
Unforced a s =
    (g : ℕ) → InWindow a g
    → (stored.names s.num_overrides s.overrides stored.force_low g ≡ false) × (stored.names s.num_overrides s.overrides stored.force_high g ≡ false)
