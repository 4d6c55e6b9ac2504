-- How many lines pick a chip, and which chip they pick. Assumes nothing.
use Rattle.std.specs.Prelude.{ℕ, ◌+◌, Bool, cond, leb, ltb, eqb, Option, Some, None}
use Rattle.slot.specs.declared.description.ChipSetType.{ChipSetType}
use Rattle.slot.specs.declared.description.ChipSetType.TheVariants.{Single, Banked, Multi}
use Rattle.lists.specs.Each.{between}

-- 01 Number 12: passed by one chip in Single, by two to four in Banked, by two or three in Multi
abbrev pub chips_fit : ChipSetType → ℕ → Bool
chips_fit Single n = eqb n 1
chips_fit Banked n = between 2 4 n
chips_fit Multi n = between 2 3 n

-- how many X pins pick
-- 01 rom_image 4: X1 alone up to two chips, X1 and X2 from three on
abbrev pub x_lines : ℕ → ℕ
x_lines chips = cond (leb 3 chips) 2 1

-- how many lines pick: none in Single, the X pins in Banked, the first select and the X pins in Multi
abbrev pub picks_of : ChipSetType → ℕ → ℕ
picks_of Single chips = 0
picks_of Banked chips = x_lines chips
picks_of Multi chips = 1 + x_lines chips

-- the chip that the bits of these lines pick, the first line's bit lowest
-- 01 rom_image 4: in Banked the bits are the chip's number; none is picked where there is no such chip
-- 01 rom_image 5: in Multi line k alone high picks chip k, both from 0; none is picked by other bits
abbrev pub picked_by : ChipSetType → ℕ → ℕ → Option ℕ
picked_by Single chips bits = Some 0
picked_by Banked chips bits = cond (ltb bits chips) (Some bits) None
picked_by Multi chips bits = cond (eqb bits 1) (Some 0) (cond (eqb bits 2) (Some 1) (cond (eqb bits 4) (Some 2) None))
