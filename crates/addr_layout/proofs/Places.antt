-- Each refusal of the address search is one of document 01's rows, with a place of 48 bits. Assumes nothing.
use Rattle.std.specs.Prelude.{Option, Some, None, Err}
use Rattle.refusal.specs.declared.Refusal.{Refusal}
use mathlib.Core.Path.{◌≡◌, refl}
use mathlib.Core.Bool.{Bool, true, false, not, ◌&&◌, cond}
use Prim.Native.Nat.{ℕ, ◌+◌, ◌-◌}
use native.Mathlib.Omega.{arith}
use lib.Dec.{leb, eqb}
use lib.ListN.{get_or}
use borrow.Author.Tests.{leb-true}
use Rattle.lists.specs.Tab.{tab}
use Rattle.lists.proofs.Bools.{and_left, and_right}
use Rattle.gpio.specs.declared.candidates.Candidates.TheVariants.{Absent}
use Rattle.slot.specs.Description.{is_single, chip0}
use Rattle.slot.specs.SlotContext.{raised_of}
use Rattle.slot.specs.declared.description.Board.{Board}
use Rattle.slot.specs.declared.description.Description.{Description}
use Rattle.refusal.specs.declared.Refusal.TheVariants.{OutOfDomain, NoValidLayout}
use Rattle.refusal.proofs.Places.{FirstRows, FirstRow, Small}
use Rattle.domain.specs.Domain.{description_in}
use Rattle.domain.proofs.Bounds.{description_in_lem}
use Rattle.listing.specs.Listing.{listed, x_listed, x_pins, first_fault}
use Rattle.listing.proofs.InDomain.{pins-fit}
use Rattle.listing.proofs.Places.{Placed, placed-append, placed-tab, placed_x, small-fault}
use Rattle.search.specs.declared.Found.{Found}
use Rattle.addr_lines.specs.Lines.{first_pin, lines, line_socket, off_before, fly_lead, at_socket, line_listed, addr_listed}
use Rattle.addr_layout.specs.Layout.{addr_code}
use Rattle.addr_layout.specs.Search.{addr_search_in, addr_best, addr_answer_of, after_faults, addr_answer}

-- off the socket: an X pin, or no layout
fly_placed : (b : Board) (first second : Bool) → FirstRow (cond first (x_listed b 1) (cond second (x_listed b 2) (listed Absent NoValidLayout))).fault
fly_placed b true second = omega arith
fly_placed b false true = omega arith
fly_placed b false false = omega arith

over_placed : (b : Board) (before : ℕ) (single : Bool) → FirstRow (cond single (fly_lead b before) (listed Absent NoValidLayout)).fault
over_placed b before true = fly_placed b (eqb before 0) (eqb before 1)
over_placed b before false = omega arith

module _ (d : Description) (e : description_in d ≡ true) where
  -- on the socket by the test t: one of its pins
  on-placed : (n s : ℕ) (t : Bool) → leb 1 s && leb s d.board.pins ≡ t → FirstRow (at_socket d n (cond t (Some s) None)).fault
  on-placed n s true h =
      omega (arith, pins-fit d.board.pins (description_in_lem d e).board.pins, leb-true s d.board.pins (and_right (leb 1 s) _ h))
  on-placed n s false h = over_placed d.board (off_before d n) (is_single d.set_type)

  line-placed : (n : ℕ) → FirstRow (line_listed d n).fault
  unfolding line_listed line_socket
  line-placed n = on-placed n (get_or (chip0 d).address_pins (first_pin d + n) 0 + raised_of d.pin_offset - 4) _ refl

  listed-placed : Placed (addr_listed d)
  unfolding addr_listed
  listed-placed =
      placed-append (tab (lines d) (λ n. line_listed d n)) (x_pins d.board (not (is_single d.set_type)) (leb 3 d.num_chips))
      (placed-tab (lines d) (λ n. line_listed d n) (λ n l. line-placed n))
      (placed_x d.board (not (is_single d.set_type)) (leb 3 d.num_chips))

module _ (d : Description) where
  found-place : (x : Option Found) → FirstRows (addr_code (addr_answer_of d x))
  found-place None = omega arith
  found-place (Some f) = omega arith

  after_place : (f : Option Refusal) → Small f → FirstRows (addr_code (after_faults d f))
  after_place (Some why) h = h
  after_place None h = found-place (addr_best d)

  in_place : (t : Bool) → addr_search_in d ≡ t
      → FirstRows (addr_code (cond t (after_faults d (first_fault (addr_listed d))) (Err OutOfDomain)))
  in_place true e = after_place (first_fault (addr_listed d)) (small-fault (addr_listed d) (listed-placed d (and_left (description_in d) _ e)))
  in_place false e = omega arith

  pub addr-place : FirstRows (addr_code (addr_answer d))
  addr-place = in_place (addr_search_in d) refl
