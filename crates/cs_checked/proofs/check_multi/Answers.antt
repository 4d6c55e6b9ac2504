-- `check_multi` meets its contract. Assumes nothing.
use mathlib.Core.Path.{◌≡◌}
use mathlib.Core.List.{List, [], ◌∷◌, ◌++◌}
use native.Mathlib.Omega.{arith}
use lib.Dec.{leb}
use Rattle.slot.specs.declared.description.Description.{Description}
use Rattle.listing.specs.Listing.{x_pins}
use Rattle.listing.specs.declared.Listed.{Listed}
use Rattle.cs_pins.specs.Pins.{kind_listed, multi_commoned}
use Rattle.cs_checked.specs.Checked.{ignored_listed, multi_checked}
use Rattle.cs_checked.proofs.check_multi.Goals as goal

-- the parts in their order, from the last to the first
parts : (d : Description) (none select commoned lines all : List Listed) (p : Listed)
    → all ≡ lines ++ x_pins d.board (leb 2 d.num_chips) (leb 3 d.num_chips) → lines ≡ commoned ++ ignored_listed d
    → commoned ≡ select ++ multi_commoned d → select ≡ none ++ (p ∷ []) → none ≡ []
    → p ≡ kind_listed d d.multi.select → all ≡ multi_checked d
unfolding multi_checked
parts d none select commoned lines all p x i c s n e = rw (x, i, c, s, n, e)

pub returns : goal.returns
returns c = (search parts, omega arith)
