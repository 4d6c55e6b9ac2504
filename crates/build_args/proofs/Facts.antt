-- What the domain says of the numbers that a build uses. Assumes nothing.
use mathlib.Core.Path.{◌≡◌}
use mathlib.Core.Bool.{Bool, true, false, ◌&&◌}
use Prim.Native.Nat.{◌≤◌}
use native.Mathlib.Omega.{arith}
use lib.Dec.{leb}
use lib.ListN.{get_or}
use borrow.Author.Tests.{leb-true}
use Rattle.gpio.specs.Candidates.{gpio_in}
use Rattle.lists.specs.Each.{each, between}
use Rattle.lists.proofs.Bools.{and_left, and_right}
use Rattle.slot.specs.declared.description.Description.{Description}
use Rattle.domain.specs.Domain.{description_in, qualifiers_in}
use Rattle.domain.proofs.Bounds.{between_is}
use Rattle.addr_layout.specs.Layout.{layout_in}
use Rattle.addr_layout.specs.declared.layout.AddrLayout.{AddrLayout}
use Rattle.cs_data_layout.proofs.Bounds.{few-lines}
use Rattle.cs_data_layout.specs.declared.layout.CsDataLayout.{CsDataLayout}
use Rattle.build_args.specs.Positions.{data_base}
use Rattle.build_args.specs.declared.BuildArgs.{BuildArgs}
use Rattle.build_args.specs.Domain.{select_lines_in, qualifier_pin_in, cs_data_in, build_in}

-- a select layout's numbers
module _ (c : CsDataLayout) (e : cs_data_in c ≡ true) where
  bases : Bool
  bases = gpio_in c.gpio_base && gpio_in c.base_data_pin && gpio_in c.base_cs_pin

  qualifiers : Bool
  qualifiers = qualifier_pin_in c.qualifiers

  gpios : Bool
  gpios = each c.num_data_pins (λ k. between 0 47 (get_or c.data_pin_gpios k 0))

  lines : Bool
  lines = between 1 16 c.num_data_pins && gpios

  selects : Bool
  selects = leb c.num_select_lines 30 && select_lines_in c false c.num_select_lines

  commoned : Bool
  commoned = leb c.num_commoned_lines 6 && select_lines_in c true c.num_commoned_lines

  front : bases && qualifiers && lines ≡ true
  unfolding cs_data_in bases qualifiers gpios lines selects commoned
  front =
      and_left (bases && qualifiers && lines) selects (and_left (bases && qualifiers && lines && selects) commoned e)

  pub selects_in : select_lines_in c false c.num_select_lines ≡ true
  unfolding cs_data_in bases qualifiers gpios lines selects commoned
  selects_in =
      and_right (leb c.num_select_lines 30) (select_lines_in c false c.num_select_lines)
      (and_right (bases && qualifiers && lines) selects (and_left (bases && qualifiers && lines && selects) commoned e))

  pub commoned_in : select_lines_in c true c.num_commoned_lines ≡ true
  unfolding cs_data_in bases qualifiers gpios lines selects commoned
  commoned_in =
      and_right (leb c.num_commoned_lines 6) (select_lines_in c true c.num_commoned_lines)
      (and_right (bases && qualifiers && lines && selects) commoned e)

  pub data-count : (1 ≤ c.num_data_pins) × (c.num_data_pins ≤ 16)
  unfolding lines
  data-count = between_is 1 16 c.num_data_pins (and_left (between 1 16 c.num_data_pins) gpios (and_right (bases && qualifiers) lines front))

  pub data-base : data_base c ≤ 94
  unfolding bases
  data-base =
      let all = and_left bases qualifiers (and_left (bases && qualifiers) lines front) in
      let two = and_left (gpio_in c.gpio_base && gpio_in c.base_data_pin) (gpio_in c.base_cs_pin) all in
      let one = leb-true c.gpio_base 47 (and_left (gpio_in c.gpio_base) (gpio_in c.base_data_pin) two) in
      let other = leb-true c.base_data_pin 47 (and_right (gpio_in c.gpio_base) (gpio_in c.base_data_pin) two) in
      omega (arith, one, other)

module _ (b : BuildArgs) (e : build_in b ≡ true) where
  abbrev d : Description
  d = b.description

  abbrev a : AddrLayout
  a = b.addr

  abbrev c : CsDataLayout
  c = b.cs_data

  qualified : Bool
  qualified = qualifiers_in d.qualifiers d.num_qualifiers a.gpios a.num_lines

  layouts : description_in d && layout_in a ≡ true
  unfolding build_in qualified
  layouts = and_left (description_in d && layout_in a) qualified (and_left (description_in d && layout_in a && qualified) (cs_data_in c) e)

  pub described : description_in d ≡ true
  described = and_left (description_in d) (layout_in a) layouts

  pub addressed : layout_in a ≡ true
  addressed = and_right (description_in d) (layout_in a) layouts

  pub selected : cs_data_in c ≡ true
  unfolding build_in qualified
  selected = and_right (description_in d && layout_in a && qualified) (cs_data_in c) e

  pub lines-few : a.num_lines ≤ 24
  lines-few = omega (arith, few-lines a addressed)
