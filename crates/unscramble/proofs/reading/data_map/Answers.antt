-- `data_map` meets its contract. Assumes nothing.
use mathlib.Core.Path.{◌≡◌, ap}
use Prim.Native.Nat.{ℕ}
use Rattle.words.specs.declared.ByteOrder.{ByteOrder}
use Rattle.words.specs.declared.ByteOrder.TheVariants.{LowFirst, HighFirst}
use Rattle.dump_lines.specs.Design.Lines.{ordered_map}
use Rattle.entry_words.specs.declared.Map.{Map}
use Rattle.stored_slot.specs.Stored.{stored_data_base, rom_at}
use Rattle.stored_slot.specs.declared.stored.Rom.{Rom}
use Rattle.stored_slot.specs.declared.stored.StoredSlot.{StoredSlot}
use Rattle.unscramble.specs.Design.Reading.{place_map, data_map}
use Rattle.unscramble.proofs.reading.data_map.Goals as goal

-- what the order makes of the map of a ROM from a base, by what all three are
module _ (s : StoredSlot) (k base : ℕ) (rom : Rom) (map : Map) (r : rom ≡ rom_at s k) (b : base ≡ stored_data_base s)
    (m : map ≡ place_map s.num_roms k rom.data_lines base) where
  place_is : map ≡ place_map s.num_roms k (rom_at s k).data_lines (stored_data_base s)
  place_is = rw (r, b) at m

  low : (order : ByteOrder) → order ≡ LowFirst → map ≡ data_map order s k
  unfolding ordered_map
  low order e = rw e place_is

  high : (order : ByteOrder) (result : Map) → order ≡ HighFirst → result ≡ ordered_map HighFirst map → result ≡ data_map order s k
  high order result e h = rw (e, h) (ap (ordered_map HighFirst) place_is)

pub returns-in-LowFirst : goal.returns-in-LowFirst
returns-in-LowFirst c =
    let a = c.args in
    low a.s a.k _ _ _ c.rom_at-rom.ensures c.data_base.ensures c.place_map-map.ensures _ c.in-LowFirst.is
