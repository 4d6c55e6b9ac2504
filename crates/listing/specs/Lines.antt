-- A chip's pins in the socket, and its control lines by kind. Assumes nothing.
use Rattle.std.specs.Prelude.{ℕ, zero, suc, cond, eqb, Option, Some, None}
use Rattle.gpio.specs.declared.candidates.Candidates.{Candidates}
use Rattle.gpio.specs.declared.candidates.Candidates.TheVariants.{Absent}
use Rattle.slot.specs.Description.{chip0, line_at, kind_at}
use Rattle.slot.specs.SlotContext.{raised_of, socket_of}
use Rattle.slot.specs.declared.description.Board.{Board}
use Rattle.slot.specs.declared.description.ControlLines.{ControlLines}
use Rattle.slot.specs.declared.description.Description.{Description}
use Rattle.listing.specs.Listing.{candidates_at}

-- the socket pin under a chip pin
-- 01 slot_context 2: the offset from chip pin to socket pin is taken from the description
abbrev pub pin_socket : Description → ℕ → Option ℕ
pin_socket d pin = socket_of pin (raised_of d.pin_offset) d.board.pins

-- the candidates at a place of the socket: none off it
abbrev pub socket_candidates : Board → Option ℕ → Candidates
socket_candidates b (Some s) = candidates_at b s
socket_candidates b None = Absent

unfoldable pub pin_candidates : Description → ℕ → Candidates
pin_candidates d pin = socket_candidates d.board (pin_socket d pin)

-- the pin of the line of a kind among the first k lines, 0 where there is none
unfoldable pub pin_of : ControlLines → ℕ → ℕ → ℕ
pin_of c kind zero = 0
pin_of c kind (suc k) = cond (eqb (kind_at c k) kind) (line_at c k).pin (pin_of c kind k)

-- 01 slot_context 2: the pin of the line of a kind, looked up on chip 0
abbrev pub kind_pin : Description → ℕ → ℕ
kind_pin d kind = pin_of (chip0 d).control kind (chip0 d).control.count
