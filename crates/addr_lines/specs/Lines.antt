-- addr_layout.rs: the pins that the address search lists. Assumes nothing.
use Rattle.std.specs.Prelude.{ℕ, ◌+◌, ◌-◌, Bool, true, false, not, cond, List, ◌++◌, leb, eqb, get_or, Option, Some, None}
use Rattle.lists.specs.Each.{tally}
use Rattle.lists.specs.Tab.{tab}
use Rattle.gpio.specs.declared.candidates.Candidates.TheVariants.{Absent}
use Rattle.slot.specs.Description.{is_single, chip0}
use Rattle.slot.specs.declared.description.Board.{Board}
use Rattle.slot.specs.declared.description.Description.{Description}
use Rattle.refusal.specs.declared.Refusal.TheVariants.{NoValidLayout, UnmappedPin}
use Rattle.listing.specs.Listing.{listed, candidates_at, x_listed, x_pins}
use Rattle.listing.specs.Lines.{pin_socket}
use Rattle.listing.specs.declared.Listed.{Listed}

-- 01 addr_layout 1: the lines start at the chip's address pin 1 where w is 2, else at pin 0
abbrev pub first_pin : Description → ℕ
first_pin d = cond (eqb d.word_bytes 2) 1 0

-- 01 addr_layout 1: where w is 2 there is one line fewer than address pins
abbrev pub lines : Description → ℕ
lines d = (chip0 d).num_address_pins - first_pin d

-- the socket pin under line n, or off the socket
-- 01 slot_context 2: line n is an address pin of chip 0
unfoldable pub line_socket : Description → ℕ → Option ℕ
line_socket d n = pin_socket d (get_or (chip0 d).address_pins (first_pin d + n) 0)

abbrev pub is_off : Option ℕ → Bool
is_off (Some s) = false
is_off None = true

-- the lines before line n that are off the socket
abbrev pub off_before : Description → ℕ → ℕ
off_before d n = tally n (λ k. is_off (line_socket d k))

-- 01 addr_layout 3: the first line off the socket has the candidates of X1, the second those of X2; for one more there is no
-- layout, which is 9
abbrev pub fly_lead : Board → ℕ → Listed
fly_lead b before = cond (eqb before 0) (x_listed b 1) (cond (eqb before 1) (x_listed b 2) (listed Absent NoValidLayout))

-- 01 addr_layout 3: only in Single may a line be off the socket; in Banked and Multi each such line is 9
-- 01 Number 9: a line is off the socket, and no X pin is left for it
abbrev pub overhanging : Description → ℕ → Listed
overhanging d n = cond (is_single d.set_type) (fly_lead d.board (off_before d n)) (listed Absent NoValidLayout)

-- 01 Number 3: the socket pin of a line has no GPIO
-- 01 addr_layout 4: the pin that 3 comes with is counted on the socket
abbrev pub at_socket : Description → ℕ → Option ℕ → Listed
at_socket d n (Some s) = listed (candidates_at d.board s) (UnmappedPin s)
at_socket d n None = overhanging d n

unfoldable pub line_listed : Description → ℕ → Listed
line_listed d n = at_socket d n (line_socket d n)

-- 01 addr_layout 5: X1 is listed in any set but Single, and X2 after it if there are at least 3 chips
-- 01 addr_layout 6: all lines are listed first, from line 0 up, in range or not; the X pins follow
unfoldable pub addr_listed : Description → List Listed
addr_listed d = tab (lines d) (λ n. line_listed d n) ++ x_pins d.board (not (is_single d.set_type)) (leb 3 d.num_chips)
