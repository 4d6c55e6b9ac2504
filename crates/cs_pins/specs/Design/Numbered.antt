-- What the pins that are numbered keep to, and what a numbering of them says. No answer is defined by it: `numbered` lists them, and
-- `cs_search_in` says which descriptions the search takes. Assumes nothing.
use Rattle.std.specs.Prelude.{◌≤◌, ◌≡◌, true, length}
use Rattle.slot.specs.Description.{is_multi, chip0}
use Rattle.slot.specs.declared.description.Description.{Description}
use Rattle.listing.specs.Listing.{twos}
use Rattle.listing.specs.Design.Packed.{list_of}
use Rattle.cs_pins.specs.Pins.{numbered, cs_search_in}
use Rattle.cs_pins.specs.declared.Numbering.{Numbering}

-- no more pins than a listing has room for
pub record NumberedIn (d : Description) : Type 0 where
  pub data-pins : (chip0 d).num_data_pins ≤ 16
  pub control_lines : (chip0 d).control.count ≤ 8
  -- only a Multi set numbers them
  pub commoned-lines : is_multi d.set_type ≡ true → d.multi.num_commoned ≤ 6

-- whether the search takes the description; if it does, its pins, and the bits of their choice number
pub record NumberedBy (d : Description) (n : Numbering) : Type 0 where
  pub verdict : n.in_domain ≡ cs_search_in d
  pub few : n.list.count ≤ 30
  pub counted : n.list.count ≡ length (list_of n.list)
  pub list : cs_search_in d ≡ true → list_of n.list ≡ numbered d
  pub bits : n.bits ≡ twos (list_of n.list)
