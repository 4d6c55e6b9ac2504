-- cs_data_layout.rs: the select pins in the order in which their faults answer. Assumes nothing.
use Rattle.std.specs.Prelude.{cond, List, [], ◌∷◌, ◌++◌, leb, get_or}
use Rattle.lists.specs.Tab.{tab}
use Rattle.gpio.specs.declared.candidates.Candidates.TheVariants.{Absent}
use Rattle.slot.specs.Description.{is_multi, chip0}
use Rattle.slot.specs.declared.description.Description.{Description}
use Rattle.refusal.specs.declared.Refusal.TheVariants.{NoSelectLine}
use Rattle.listing.specs.Listing.{listed, x_pins}
use Rattle.listing.specs.declared.Listed.{Listed}
use Rattle.cs_pins.specs.Pins.{active_listed, kind_listed, multi_commoned}

-- 01 Number 2: there is no active line: the line that is missing stands for it
unfoldable pub or_no_active : List Listed → List Listed
or_no_active [] = listed Absent NoSelectLine ∷ []
or_no_active (l ∷ ls) = l ∷ ls

unfoldable pub ignored_listed : Description → List Listed
ignored_listed d = tab d.multi.num_ignored (λ k. kind_listed d (get_or d.multi.ignored k 0))

-- 01 cs_data_layout 1: in Multi the select line is tested first, then the commoned lines, then the ignored ones, then X1 if there
-- are at least 2 chips, and X2 if there are at least 3
unfoldable pub multi_checked : Description → List Listed
multi_checked d =
    (((kind_listed d d.multi.select ∷ []) ++ multi_commoned d) ++ ignored_listed d)
    ++ x_pins d.board (leb 2 d.num_chips) (leb 3 d.num_chips)

-- 01 cs_data_layout 1: in Single and Banked it is tested first whether a line is active, then the pins of the active lines
unfoldable pub checked : Description → List Listed
checked d =
    cond (is_multi d.set_type) (multi_checked d) (or_no_active (active_listed d (chip0 d).control.count))
