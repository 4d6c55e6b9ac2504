-- Which lines of a slot's layouts pick a chip. Assumes nothing.
use Rattle.std.specs.Prelude.{ℕ, ◌-◌, cond, eqb, get_or, Option, Some, None}
use Rattle.slot.specs.declared.description.ChipSetType.{ChipSetType}
use Rattle.slot.specs.declared.description.ChipSetType.TheVariants.{Single, Banked, Multi}
use Rattle.slot.specs.declared.description.Description.{Description}
use Rattle.addr_layout.specs.declared.layout.AddrLayout.{AddrLayout}
use Rattle.cs_data_layout.specs.Layout.{line}
use Rattle.cs_data_layout.specs.declared.layout.CsDataLayout.{CsDataLayout}
use Rattle.picks.specs.Positions.{x_position}
use Rattle.picks.specs.Picks.{picks_of, picked_by}

abbrev pub num_picks : Description → ℕ
num_picks d = picks_of d.set_type d.num_chips

-- the first select line's GPIO, if there is one
abbrev pub first_select : CsDataLayout → Option ℕ
first_select c = cond (eqb c.num_select_lines 0) None (Some (get_or c.select_lines 0 (line 0 0)).gpio)

-- 01 rom_image 3: the GPIOs of X1 and X2 are taken from the address layout alone
abbrev pub x_gpio : AddrLayout → ℕ → Option ℕ
x_gpio a k = cond (eqb k 0) a.x1_gpio a.x2_gpio

-- the k-th line that picks
-- 01 rom_image 4: in Banked the lines that pick are X1, then X2
-- 01 rom_image 5: in Multi the lines that pick are the first select line, then X1, then X2
abbrev pub pick_of : ChipSetType → AddrLayout → CsDataLayout → ℕ → Option ℕ
pick_of Single a c k = None
pick_of Banked a c k = x_gpio a k
pick_of Multi a c k = cond (eqb k 0) (first_select c) (x_gpio a (k - 1))

abbrev pub pick_at : Description → AddrLayout → CsDataLayout → ℕ → Option ℕ
pick_at d a c k = pick_of d.set_type a c k

abbrev pub pick_position : Description → AddrLayout → CsDataLayout → ℕ → ℕ
pick_position d a c k = x_position a.gpio_base (pick_at d a c k)

abbrev pub picked : Description → ℕ → Option ℕ
picked d bits = picked_by d.set_type d.num_chips bits
