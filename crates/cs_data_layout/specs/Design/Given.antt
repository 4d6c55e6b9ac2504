-- What the search and the layout of a choice are given. No answer is defined by it: `cs_data_answer_of` and `cs_data_layout_of` say what they
-- come to. Assumes nothing.
use Rattle.std.specs.Prelude.{ℕ, ◌≤◌, ◌≡◌, true}
use Rattle.slot.specs.Description.{chip0}
use Rattle.slot.specs.declared.description.Description.{Description}
use Rattle.domain.specs.Domain.{qualifiers_in}
use Rattle.listing.specs.declared.Listing.{Listing}
use Rattle.addr_layout.specs.Layout.{layout_in}
use Rattle.addr_layout.specs.declared.layout.AddrLayout.{AddrLayout}
use Rattle.cs_pins.specs.Pins.{cs_search_in}
use Rattle.cs_pins.specs.declared.Numbering.{Numbering}
use Rattle.cs_pins.specs.Design.Numbered.{NumberedBy}
use Rattle.cs_choices.specs.Design.Parts.{PinsIn}
use Rattle.cs_choices.specs.declared.choices.Fixed.{Fixed}
use Rattle.cs_data_layout.specs.Choices.{num_data, excess_set, qualifier_set}

-- the address layout handed in is in the domain, and so are the qualifiers beside it
pub record HandedIn (d : Description) (h : AddrLayout) : Type 0 where
  pub layout : layout_in h ≡ true
  pub qualifiers : qualifiers_in d.qualifiers d.num_qualifiers h.gpios h.num_lines ≡ true

-- the description is in the domain as well, and has few enough choices; its pins are numbered
pub record SearchIn (d : Description) (h : AddrLayout) (n : Numbering) : Type 0 where
  pub description : cs_search_in d ≡ true
  pub handed : HandedIn d h
  pub pins : NumberedBy d n

-- no more lines than a layout has room for, and the GPIOs of the qualifiers
pub record LinesIn (d : Description) (h : AddrLayout) (q : ℕ) : Type 0 where
  pub data-pins : num_data d ≤ 16
  pub control_lines : (chip0 d).control.count ≤ 8
  pub excess-lines : h.num_excess ≤ 24
  pub qualifiers : q ≡ qualifier_set d h

-- the pins of which a choice is laid out, and what no choice changes
pub record Laying (d : Description) (h : AddrLayout) (l : Listing) (f : Fixed) : Type 0 where
  pub lines : LinesIn d h f.qualifiers
  pub pins : PinsIn l f.num_data
  pub data_number : f.num_data ≡ num_data d
  pub excess : f.excess ≡ excess_set h
