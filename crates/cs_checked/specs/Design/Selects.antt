-- What the pins that are checked keep to, and their first fault, as `earlier` has it. No answer is defined by it: `checked` lists the
-- select pins. Assumes nothing.
use Rattle.refusal.specs.declared.Refusal.{Refusal}
use Rattle.std.specs.Prelude.{◌≤◌, ◌≡◌, true, Option}
use Rattle.slot.specs.Description.{is_multi, chip0}
use Rattle.slot.specs.declared.description.Description.{Description}
use Rattle.refusal.specs.First.{or_else}
use Rattle.listing.specs.Listing.{first_fault}
use Rattle.listing.specs.Design.Packed.{list_of}
use Rattle.listing.specs.declared.Listing.{Listing}
use Rattle.cs_pins.specs.Pins.{data_listed, numbered}
use Rattle.cs_checked.specs.Checked.{checked}

-- no more lines of a Multi set than a listing has room for
pub record MultiLinesIn (d : Description) : Type 0 where
  pub commoned : d.multi.num_commoned ≤ 6
  pub ignored : d.multi.num_ignored ≤ 6

-- the numbered pins, and no more lines than a listing has room for
pub record CheckedIn (d : Description) (l : Listing) : Type 0 where
  pub data-pins : (chip0 d).num_data_pins ≤ 16
  pub multi-lines : is_multi d.set_type ≡ true → MultiLinesIn d
  pub few : l.count ≤ 30
  pub pins : list_of l ≡ numbered d

-- the first fault of the data pins, else of the select pins
abbrev pub pins_fault : Description → Option Refusal
pins_fault d = or_else (first_fault (data_listed d)) (first_fault (checked d))
