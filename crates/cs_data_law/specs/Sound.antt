-- What the fields of a found select layout keep. Assumes nothing.
use Rattle.std.specs.Prelude.{◌≡◌, true, false, ◌⊎◌, ℕ, ◌+◌, ◌-◌, ◌≤◌, ◌<◌, length, get_or, Some, None, Option}
use Rattle.bits.specs.Bits.{bit}
use Rattle.gpio.specs.Candidates.{last_gpio}
use Rattle.gpio.specs.Set.{Distinct}
use Rattle.slot.specs.Description.{is_multi, chip0}
use Rattle.slot.specs.declared.description.Description.{Description}
use Rattle.domain.specs.Domain.{qualifier_gpio}
use Rattle.listing.specs.Lines.{kind_pin, pin_candidates}
use Rattle.listing.specs.Choice.{CandidateOf, pin_at, gpio_at}
use Rattle.cs_pins.specs.Pins.{select_listed, commoned_listed, numbered}
use Rattle.cs_roles.specs.Roles.{select_roles, half_role}
use Rattle.cs_data_layout.specs.Layout.{line, handed}
use Rattle.cs_data_layout.specs.Choices.{num_data, excess_gpio, num_commoned}
use Rattle.addr_layout.specs.declared.layout.AddrLayout.{AddrLayout}
use Rattle.cs_data_layout.specs.declared.layout.SelectLine.{SelectLine}
use Rattle.cs_data_layout.specs.declared.layout.CsDataLayout.{CsDataLayout}

-- the lines of a layout, and their GPIOs
abbrev pub data_gpio : CsDataLayout → ℕ → ℕ
data_gpio l k = get_or l.data_pin_gpios k 0

abbrev pub select_at : CsDataLayout → ℕ → SelectLine
select_at l k = get_or l.select_lines k (line 0 0)

abbrev pub select_gpio : CsDataLayout → ℕ → ℕ
select_gpio l k = (select_at l k).gpio

abbrev pub commoned_at : CsDataLayout → ℕ → SelectLine
commoned_at l k = get_or l.commoned_lines k (line 0 0)

abbrev pub commoned_gpio : CsDataLayout → ℕ → ℕ
commoned_gpio l k = (commoned_at l k).gpio

-- what the data lines of a found layout keep, and how many lines there are, l being the layout of choice c
pub record SoundLayout (d : Description) (c : ℕ) (l : CsDataLayout) : Type 0 where
  -- 01 cs_data_layout 6: there are as many data lines as chip 0 has data pins
  pub data-count : l.num_data_pins ≡ num_data d
  -- the GPIO of each is a candidate of its pin
  pub data-gpio : (k : ℕ) → k < l.num_data_pins → data_gpio l k ≡ gpio_at (numbered d) c k
  pub data-candidate : (k : ℕ) → k < l.num_data_pins
      → CandidateOf (pin_candidates d (get_or (chip0 d).data_pins k 0)) (data_gpio l k)
  pub data_in : (k : ℕ) → k < l.num_data_pins → data_gpio l k ≤ last_gpio
  -- 01 cs_data_layout 6: no data GPIO is below the base and the base data pin added up
  pub data-above : (k : ℕ) → k < l.num_data_pins → l.gpio_base + l.base_data_pin ≤ data_gpio l k
  -- 01 cs_data_layout 6: some data GPIO is the base and the base data pin added up
  pub data-attained : (k : ℕ) × (k < l.num_data_pins) × (data_gpio l k ≡ l.gpio_base + l.base_data_pin)
  -- and since they have no gap, data GPIOs that differ stand at positions below their number
  pub data-below : Distinct l.num_data_pins (data_gpio l)
      → (k : ℕ) → k < l.num_data_pins → data_gpio l k - (l.gpio_base + l.base_data_pin) < l.num_data_pins
  -- the select and commoned lines have a place each
  -- 01 Domain 13: a layout that was found has at most 30 select lines
  pub select-count : l.num_select_lines ≤ 30
  -- 01 Domain 13: a layout that was found has at most 6 commoned lines
  pub commoned-count : l.num_commoned_lines ≤ 6
  -- 01 Number 2: past the tests there is a select line
  pub some-select : 0 < l.num_select_lines
  -- in Multi the first is that of the select, which is on chip 0
  pub select-on : is_multi d.set_type ≡ true → kind_pin d d.multi.select ≡ 0 → ⊥
  pub select-candidate : is_multi d.set_type ≡ true
      → CandidateOf (pin_candidates d (kind_pin d d.multi.select)) (select_gpio l 0)

-- what the select and commoned lines of a found layout are, l being the layout of choice c
pub record SoundLines (d : Description) (a : Option AddrLayout) (c : ℕ) (l : CsDataLayout) : Type 0 where
  -- 01 cs_data_layout 6: the lines of the select pins come first, in the order of the pins, each with its role and its pin's GPIO
  pub num_select : l.num_select_lines ≡ length (select_roles d) + (handed a).num_excess
  pub select : (k : ℕ) → k < length (select_roles d)
      → select_at l k ≡ line (get_or (select_roles d) k 0) (gpio_at (numbered d) c (num_data d + k))
  pub select-candidate : (k : ℕ) → k < length (select_roles d) → CandidateOf (pin_at (select_listed d) k) (select_gpio l k)
  -- 01 cs_data_layout 6: then come the excess lines, in their order, as half selects
  pub excess : (k : ℕ) → k < (handed a).num_excess
      → select_at l (length (select_roles d) + k) ≡ line half_role (excess_gpio (handed a) k)
  -- 01 cs_data_layout 6: the commoned lines are those of the description, in their order, each with its kind and its pin's GPIO
  pub commoned_number : l.num_commoned_lines ≡ num_commoned d
  pub commoned : (k : ℕ) → k < num_commoned d
      → commoned_at l k ≡ line (get_or d.multi.commoned k 0) (gpio_at (numbered d) c (num_data d + length (select_roles d) + k))
  pub commoned-candidate : (k : ℕ) → k < num_commoned d → CandidateOf (pin_at (commoned_listed d) k) (commoned_gpio l k)

-- 01 cs_data_layout 3: a select GPIO of a layout is that of a select line, excess lines among them, or of a commoned line
pub data IsSelect (l : CsDataLayout) (g : ℕ) : Type 0 where
  of_select : (k : ℕ) → k < l.num_select_lines → select_gpio l k ≡ g → IsSelect l g
  of_commoned : (k : ℕ) → k < l.num_commoned_lines → commoned_gpio l k ≡ g → IsSelect l g

-- the GPIOs that a layout says the selects span: from here, and up to there
abbrev pub select_from : CsDataLayout → ℕ
select_from l = l.gpio_base + l.base_cs_pin

abbrev pub select_end : CsDataLayout → ℕ
select_end l = select_from l + l.num_cs_pins

-- the ignore index i of a layout
pub record SoundIgnored (d : Description) (l : CsDataLayout) (i : ℕ) : Type 0 where
  -- 01 cs_data_layout 3: a Multi set has no ignore index
  pub not-multi : is_multi d.set_type ≡ false
  -- 01 cs_data_layout 3: the ignored GPIO, i places above the lowest select, is between lowest and highest, and no select's
  pub above : select_from l < select_from l + i
  pub below : select_from l + i + 1 < select_end l
  pub missing : IsSelect l (select_from l + i) → ⊥
  -- 01 cs_data_layout 3: every other GPIO from the lowest select to the highest is a select's
  pub single : (g : ℕ) → select_from l ≤ g → g < select_end l → (g ≡ select_from l + i → ⊥) → IsSelect l g

-- what base, count and ignore index of the selects of a found layout say
pub record SoundSelects (d : Description) (l : CsDataLayout) : Type 0 where
  -- 01 cs_data_layout 6: the base and the base select pin added up are the lowest select GPIO
  pub lowest : IsSelect l (select_from l)
  pub above : (g : ℕ) → IsSelect l g → select_from l ≤ g
  -- 01 cs_data_layout 6: as many pins as the selects span reach just to the highest
  pub highest : IsSelect l (select_end l - 1)
  pub below : (g : ℕ) → IsSelect l g → g < select_end l
  -- 01 cs_data_layout 3: there is no ignore index exactly if every GPIO from the lowest to the highest is a select's
  pub none-gapless : l.cs_ignore_index ≡ None → (g : ℕ) → select_from l ≤ g → g < select_end l → IsSelect l g
  pub gapless-none : ((g : ℕ) → select_from l ≤ g → g < select_end l → IsSelect l g) → l.cs_ignore_index ≡ None
  pub ignored : (i : ℕ) → l.cs_ignore_index ≡ Some i → SoundIgnored d l i

-- 01 Domain 10: a qualifier GPIO is that of an address line that the list of qualifiers names, in the layout handed in
abbrev pub IsQualifier : Description → Option AddrLayout → ℕ → Type 0
IsQualifier d a g = (k : ℕ) × (k < d.num_qualifiers) × (qualifier_gpio d.qualifiers (handed a).gpios k ≡ g)

-- the GPIOs that they span, by a base pin and a count of a layout: from here, and up to there
abbrev pub qualifier_from : CsDataLayout → ℕ → ℕ
qualifier_from l pin = l.gpio_base + pin

abbrev pub qualifier_end : CsDataLayout → ℕ → ℕ → ℕ
qualifier_end l pin count = qualifier_from l pin + count

-- what a found layout says of qualifiers, where there are some
pub record SomeQualifiers (d : Description) (a : Option AddrLayout) (l : CsDataLayout) : Type 0 where
  -- the layout says that there are some, with this base pin, number of pins and pattern
  pub pin : ℕ
  pub count : ℕ
  pub pattern : ℕ
  pub present : l.qualifiers ≡ Some (record { base_qualifier_pin = pin; num_qualifier_pins = count; qualifier_inactive_pattern = pattern })
  -- 01 cs_data_layout 6: the base and the base pin of the qualifiers added up are the lowest qualifier GPIO
  pub lowest : IsQualifier d a (qualifier_from l pin)
  pub above : (g : ℕ) → IsQualifier d a g → qualifier_from l pin ≤ g
  -- 01 cs_data_layout 6: as many pins as the qualifiers span reach just to the highest
  pub highest : IsQualifier d a (qualifier_end l pin count - 1)
  pub below : (g : ℕ) → IsQualifier d a g → g < qualifier_end l pin count
  -- 01 Domain 10: the qualifiers span at most 8 GPIOs
  pub few : count ≤ 8
  -- 01 cs_data_layout 7: bit k of the pattern is 1 exactly if the GPIO k places above the lowest qualifier is a qualifier's
  pub bit-one : (k : ℕ) → bit pattern k ≡ 1 → IsQualifier d a (qualifier_from l pin + k)
  pub one_bit : (k : ℕ) → IsQualifier d a (qualifier_from l pin + k) → bit pattern k ≡ 1

-- what a found layout says of qualifiers
pub record SoundQualifiers (d : Description) (a : Option AddrLayout) (l : CsDataLayout) : Type 0 where
  -- 01 cs_data_layout 6: without qualifiers a layout says that there are none
  pub none : d.num_qualifiers ≡ 0 → l.qualifiers ≡ None
  pub some : 0 < d.num_qualifiers → SomeQualifiers d a l

-- 01 cs_data_layout 3: the window of a layout has to hold data, select and qualifier GPIOs
pub data ToHold (d : Description) (a : Option AddrLayout) (l : CsDataLayout) (g : ℕ) : Type 0 where
  of_data : (k : ℕ) → k < l.num_data_pins → data_gpio l k ≡ g → ToHold d a l g
  of_selects : IsSelect l g → ToHold d a l g
  of_qualifiers : IsQualifier d a g → ToHold d a l g

-- what base and window of a found layout keep
pub record SoundWindow (d : Description) (a : Option AddrLayout) (l : CsDataLayout) : Type 0 where
  -- 01 cs_data_layout 3: there are two bases: 0 if some GPIO that the window has to hold is below 16, and 16 if none is
  pub base : ((l.gpio_base ≡ 0) × ((g : ℕ) × (g < 16) × ToHold d a l g))
      ⊎ ((l.gpio_base ≡ 16) × ((g : ℕ) → ToHold d a l g → 16 ≤ g))
  -- 01 cs_data_layout 3: each GPIO that the window has to hold is one of the 32 from the base on
  pub inside : (g : ℕ) → ToHold d a l g → (l.gpio_base ≤ g) × (g < l.gpio_base + 32)
