-- What read-back is given and has room for, as tests. Assumes nothing.
use Rattle.std.specs.Prelude.{ℕ, ◌*◌, ◌/◌, ◌%◌, Bool, ◌&&◌, ◌||◌, not, List, leb, eqb, get_or}
use Rattle.lists.specs.Each.{each}
use Rattle.slot.specs.Description.{is_multi, no_chip}
use Rattle.slot.specs.declared.description.Description.{Description}
use Rattle.addr_layout.specs.declared.layout.AddrLayout.{AddrLayout}
use Rattle.cs_data_layout.specs.declared.layout.CsDataLayout.{CsDataLayout}
use Rattle.build_args.specs.Positions.{data_base}
use Rattle.build_args.specs.Picks.{first_select}
use Rattle.build_args.specs.Faults.{table_size}
use Rattle.stored_slot.specs.Stored.{
  rom_at,
  word_bytes,
  addr_base,
  stored_data_base,
  stored_select,
  stored_pins,
  within,
  map_lines,
  force_low,
  force_high,
}
use Rattle.stored_slot.specs.declared.stored.StoredSlot.{StoredSlot}
use Rattle.premises.specs.Room.{words}
use Rattle.premises.specs.Same.{same_candidates, is_roms, is_at, same_to}

-- whether an output and marks of so many bytes have room
-- 01 Well wired 11: there are w bytes of output for each word of all chips, and one mark
abbrev pub roomy : Description → AddrLayout → ℕ → ℕ → Bool
roomy d a output marks = leb (words d a * d.word_bytes) output && leb (words d a) marks

-- whether an override of kind 2 or 3 names a GPIO of the address window
abbrev pub forces : AddrLayout → ℕ → Bool
forces a over =
    within a.gpio_base a.num_addr_pins (over % 64) && (eqb (over / 64) force_low || eqb (over / 64) force_high)

-- 01 Well wired 10: no override of kind 2 or 3 names a GPIO of the address window
unfoldable pub nothing_forced : AddrLayout → StoredSlot → Bool
nothing_forced a s = each s.num_overrides (λ k. not (forces a (get_or s.overrides k 0)))

-- 01 Well wired 11: the address, the data and the DMA algorithm are known ones
abbrev pub algs_known : StoredSlot → Bool
algs_known s = eqb s.alg_addr.alg 0 && leb s.alg_data.alg 1 && eqb s.alg_dma.alg 0

-- 01 Well wired 12: the base and the number of address pins are those of the address layout, the data base that of the select layout
abbrev pub bases_as : AddrLayout → CsDataLayout → StoredSlot → Bool
bases_as a c s =
    eqb (addr_base s) a.gpio_base && eqb (stored_pins s) a.num_addr_pins && eqb (stored_data_base s) (data_base c)

-- 01 Well wired 11: the X candidates are the board's
abbrev pub x_pins_as : Description → StoredSlot → Bool
x_pins_as d s = same_candidates s.x1 d.board.x1 && same_candidates s.x2 d.board.x2

-- whether a map lists the first n GPIOs of a list, and no more
abbrev pub lists_of : List ℕ → List ℕ → ℕ → Bool
lists_of map gpios n = eqb (map_lines 32 map) n && same_to n map gpios

-- 01 Well wired 11: ROM k has the size of chip k
-- 01 Well wired 12: ROM k has a map, which lists the GPIOs of the address lines in use, and those of the data lines
unfoldable pub mapped_as : Description → AddrLayout → CsDataLayout → StoredSlot → ℕ → Bool
mapped_as d a c s k =
    (rom_at s k).has_map
    && eqb (rom_at s k).chip_size (get_or d.chips k no_chip).size
    && lists_of (rom_at s k).addr a.gpios a.num_lines
    && lists_of (rom_at s k).data_lines c.data_pin_gpios c.num_data_pins

-- 01 Well wired 11: there are as many ROMs as chips, each as mapped_as says
abbrev pub roms_as : Description → AddrLayout → CsDataLayout → StoredSlot → Bool
roms_as d a c s = eqb s.num_roms d.num_chips && each d.num_chips (λ k. mapped_as d a c s k)

-- 01 Well wired 12: the select algorithm is AlgCs0, at the GPIO of the first select line
abbrev pub select_as : CsDataLayout → StoredSlot → Bool
select_as c s = eqb s.alg_cs.alg 0 && is_at (first_select c) (stored_select s)

-- 01 Well wired 11: ROMs in a set of the description's kind; a layout; a word of as many bytes; the table's size
-- 01 Well wired 12: select_as is asked for in Multi only
unfoldable pub stored_well : Description → AddrLayout → CsDataLayout → StoredSlot → Bool
stored_well d a c s =
    (is_roms s.slot_type d.set_type && s.has_layout && algs_known s)
    && (eqb (word_bytes s) d.word_bytes && eqb s.size (table_size d a))
    && x_pins_as d s
    && bases_as a c s
    && roms_as d a c s
    && (not (is_multi d.set_type) || select_as c s)
    && leb s.num_overrides 64
