-- In a description of the domain the candidates of the pins that the address search lists are GPIOs of the RP2350. Assumes nothing.
use Rattle.std.specs.Prelude.{Option, Some, None}
use mathlib.Core.Path.{◌≡◌, refl}
use mathlib.Core.Bool.{Bool, true, false, not, cond}
use Prim.Native.Nat.{ℕ, ◌+◌}
use lib.Dec.{leb, eqb}
use lib.ListN.{get_or}
use Rattle.lists.specs.Tab.{tab}
use Rattle.gpio.specs.Candidates.{candidates_in}
use Rattle.gpio.specs.declared.candidates.Candidates.TheVariants.{Absent}
use Rattle.slot.specs.Description.{is_single, chip0}
use Rattle.slot.specs.declared.description.Description.{Description}
use Rattle.refusal.specs.declared.Refusal.TheVariants.{NoValidLayout}
use Rattle.domain.specs.Domain.{description_in}
use Rattle.domain.proofs.Bounds.{description_in_lem}
use Rattle.listing.specs.Choice.{GpiosIn}
use Rattle.listing.specs.Lines.{socket_candidates, pin_candidates}
use Rattle.listing.specs.Listing.{listed, x_listed, x_pins}
use Rattle.listing.specs.declared.Listed.{Listed}
use Rattle.listing.proofs.InDomain.{append_in, tab_in, pin_in, x_pins_in}
use Rattle.addr_lines.specs.Lines.{lines, first_pin, line_socket, off_before, fly_lead, at_socket, line_listed, addr_listed}

abbrev In : Listed → Type 0
In l = candidates_in l.gpios ≡ true

either_in : (t : Bool) (a b : Listed) → In a → In b → In (cond t a b)
either_in true a b p q = p
either_in false a b p q = q

module _ (d : Description) (e : description_in d ≡ true) where
  -- a line on the socket, and one off it
  at_in : (n : ℕ) (o : Option ℕ) → candidates_in (socket_candidates d.board o) ≡ true → In (at_socket d n o)
  at_in n (Some s) h = h
  at_in n None h =
      let board = (description_in_lem d e).board in
      let none = listed Absent NoValidLayout in
      let second = either_in (eqb (off_before d n) 1) (x_listed d.board 2) none board.x2 refl in
      let lead = either_in (eqb (off_before d n) 0) (x_listed d.board 1) _ board.x1 second in
      either_in (is_single d.set_type) (fly_lead d.board (off_before d n)) none lead refl

  line_in : (n : ℕ) → In (line_listed d n)
  unfolding line_listed line_socket pin_candidates
  line_in n = at_in n (line_socket d n) (pin_in d e (get_or (chip0 d).address_pins (first_pin d + n) 0))

  pub listed_in : GpiosIn (addr_listed d)
  unfolding addr_listed
  listed_in =
      let one = not (is_single d.set_type) in
      let both = leb 3 d.num_chips in
      append_in (tab (lines d) (λ n. line_listed d n)) (x_pins d.board one both) (tab_in (λ n. line_listed d n) line_in (lines d))
      (x_pins_in d.board (description_in_lem d e).board one both)
