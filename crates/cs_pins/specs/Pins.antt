-- cs_data_layout.rs: the pins that the select search numbers. Assumes nothing.
use Rattle.std.specs.Prelude.{ℕ, zero, suc, Bool, ◌&&◌, not, cond, List, [], ◌∷◌, ◌++◌, leb, eqb, get_or}
use Rattle.lists.specs.Tab.{tab}
use Rattle.gpio.specs.declared.candidates.Candidates.TheVariants.{Absent}
use Rattle.slot.specs.Description.{is_multi, chip0, line_at, kind_at, cs4_kind}
use Rattle.slot.specs.declared.description.Description.{Description}
use Rattle.refusal.specs.declared.Refusal.TheVariants.{NoSelectLine, UnmappedPin}
use Rattle.domain.specs.Domain.{description_in}
use Rattle.control.specs.CsConfig.{ignores}
use Rattle.listing.specs.Listing.{listed, x_pins, twos}
use Rattle.listing.specs.Lines.{kind_pin, pin_candidates}
use Rattle.listing.specs.declared.Listed.{Listed}

-- 01 Number 3: a listed pin has no GPIO; one that is off the socket never has
-- 01 cs_data_layout 2: the pin that 3 comes with is counted on the chip
unfoldable pub pin_listed : Description → ℕ → Listed
pin_listed d pin = listed (pin_candidates d pin) (UnmappedPin pin)

-- 01 slot_context 2: the data pins are those of chip 0
unfoldable pub data_listed : Description → List Listed
data_listed d = tab (chip0 d).num_data_pins (λ k. pin_listed d (get_or (chip0 d).data_pins k 0))

-- a line of kind 0 to 5 whose setting, as read, is not ignored
abbrev pub active : Description → ℕ → Bool
active d k = leb (kind_at (chip0 d).control k) cs4_kind && not (ignores d.cs_config (kind_at (chip0 d).control k))

abbrev pub if_active : Description → ℕ → List Listed
if_active d k = cond (active d k) (pin_listed d (line_at (chip0 d).control k).pin ∷ []) []

-- the active ones of the first k lines, in the chip's order
unfoldable pub active_listed : Description → ℕ → List Listed
active_listed d zero = []
active_listed d (suc k) = active_listed d k ++ if_active d k

-- 01 Number 2: a line of the Multi configuration is none of chip 0's
-- 01 cs_data_layout 1: whether chip 0 has such a line is tested before the line's pin is
abbrev pub or_no_line : Description → ℕ → Listed
or_no_line d pin = cond (eqb pin 0) (listed Absent NoSelectLine) (pin_listed d pin)

unfoldable pub kind_listed : Description → ℕ → Listed
kind_listed d kind = or_no_line d (kind_pin d kind)

-- 01 cs_data_layout 1: in Multi, X1 is needed if there are at least 2 chips, and X2 if there are at least 3
-- 01 cs_data_layout 5: X1 and X2 come directly behind the select
unfoldable pub select_listed : Description → List Listed
select_listed d =
    cond (is_multi d.set_type)
    (kind_listed d d.multi.select ∷ x_pins d.board (leb 2 d.num_chips) (leb 3 d.num_chips))
    (active_listed d (chip0 d).control.count)

-- the commoned lines of a Multi set
abbrev pub multi_commoned : Description → List Listed
multi_commoned d = tab d.multi.num_commoned (λ k. kind_listed d (get_or d.multi.commoned k 0))

unfoldable pub commoned_listed : Description → List Listed
commoned_listed d = cond (is_multi d.set_type) (multi_commoned d) []

-- 01 cs_data_layout 5: first come the data pins, then the select pins with the X pins among them, and last the commoned ones
unfoldable pub numbered : Description → List Listed
numbered d = (data_listed d ++ select_listed d) ++ commoned_listed d

-- 01 Domain 8: of the pins that this search numbers, no more than 16 have two candidates
unfoldable pub cs_search_in : Description → Bool
cs_search_in d = description_in d && leb (twos (numbered d)) 16
