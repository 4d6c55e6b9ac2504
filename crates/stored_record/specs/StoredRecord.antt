-- The stored slot record of docs/INTERFACE.md, place by place: the slot that bytes give, and which bytes are a record. Assumes
-- nothing.
use Rattle.std.specs.Prelude.{ℕ, ◌+◌, ◌*◌, Bool, cond, ◌&&◌, List, leb, eqb, length}
use Rattle.lists.specs.Each.{each}
use Rattle.lists.specs.Tab.{tab}
use Rattle.slot.specs.declared.description.ChipSetType.TheVariants.{Single, Banked, Multi}
use Rattle.fields.specs.Candidates.{pair_at, pair_in}
use Rattle.fields.specs.Fields.{byte_at, bytes_at, four_at, flag_formed}
use Rattle.stored_slot.specs.declared.stored.SlotType.{SlotType}
use Rattle.stored_slot.specs.declared.stored.SlotType.TheVariants.{Unknown, Plugin, Roms}
use Rattle.stored_slot.specs.declared.stored.AlgAddr.{AlgAddr}
use Rattle.stored_slot.specs.declared.stored.AlgData.{AlgData}
use Rattle.stored_slot.specs.declared.stored.AlgDma.{AlgDma}
use Rattle.stored_slot.specs.declared.stored.AlgCs.{AlgCs}
use Rattle.stored_slot.specs.declared.stored.Rom.{Rom}
use Rattle.stored_slot.specs.declared.stored.StoredSlot.{StoredSlot}

-- "376 bytes"
abbrev pub stored_size : ℕ
stored_size = 376

-- "0 Single ROM, 1 Single RAM, 2 Banked, 3 Multi, 4 to 6 plugin, any other: unknown"
-- 01 Number 18: a byte above 6 is no kind of slot
abbrev pub slot_type_of : ℕ → SlotType
slot_type_of x =
    cond (leb x 1) (Roms Single)
    (cond (eqb x 2) (Roms Banked)
    (cond (eqb x 3) (Roms Multi)
    (cond (leb x 6) Plugin Unknown)))

-- "address algorithm, base, base pin, number of pins"
abbrev pub alg_addr_at : List ℕ → AlgAddr
alg_addr_at b = record {
  alg = byte_at b 6;
  gpio_base = byte_at b 7;
  base_addr_pin = byte_at b 8;
  num_addr_pins = byte_at b 9;
}

-- "data algorithm, base, base pin"
abbrev pub alg_data_at : List ℕ → AlgData
alg_data_at b = record { alg = byte_at b 10; gpio_base = byte_at b 11; base_data_pin = byte_at b 12 }

-- "DMA algorithm, bit mode"
abbrev pub alg_dma_at : List ℕ → AlgDma
alg_dma_at b = record { alg = byte_at b 13; bit_mode = byte_at b 14 }

-- "select algorithm, base, pin of the first ROM's select"
abbrev pub alg_cs_at : List ℕ → AlgCs
alg_cs_at b = record { alg = byte_at b 15; gpio_base = byte_at b 16; first_rom_cs_base = byte_at b 17 }

-- "1 yes"; the size, and the GPIOs of 32 address and 32 data lines as they stand, with the 255 that ends them
-- 01 Domain 12: a ROM has 32 address entries and 32 data entries, whatever their bytes are
unfoldable pub rom_from : List ℕ → ℕ → Rom
rom_from b p = record {
  has_map = eqb (byte_at b p) 1;
  chip_size = four_at b (p + 4);
  addr = bytes_at b (p + 8) 32;
  data_lines = bytes_at b (p + 40) 32;
}

-- "ROMs 0 to 3, 72 bytes a ROM"
abbrev pub roms_at : List ℕ → List Rom
roms_at b = tab 4 (λ k. rom_from b (88 + 72 * k))

-- what the record stores
-- 01 Domain 12: there is room for 64 overrides
-- 01 Shape 7: the algorithms' numbers are taken from bytes, each at its place in docs/INTERFACE.md
unfoldable pub stored_at : List ℕ → StoredSlot
stored_at b = record {
  size = four_at b 0;
  slot_type = slot_type_of (byte_at b 4);
  has_layout = eqb (byte_at b 5) 1;
  alg_addr = alg_addr_at b;
  alg_data = alg_data_at b;
  alg_dma = alg_dma_at b;
  alg_cs = alg_cs_at b;
  overrides = bytes_at b 19 64;
  num_overrides = byte_at b 18;
  x1 = pair_at b 83;
  x2 = pair_at b 85;
  roms = roms_at b;
  num_roms = byte_at b 87;
}

-- whether each ROM has a map
abbrev pub roms_formed : List ℕ → Bool
roms_formed b = each 4 (λ k. flag_formed b (88 + 72 * k))

-- the length, whether there is a layout, the candidates of X1 and of X2, and each ROM
unfoldable pub stored_formed : List ℕ → Bool
stored_formed b = eqb (length b) stored_size && leb (byte_at b 5) 1 && pair_in b 83 && pair_in b 85 && roms_formed b
