-- `pin_candidates` meets its contract. Assumes nothing.
use Rattle.std.specs.Prelude.{Option, Some, None}
use mathlib.Core.Path.{◌≡◌}
use Prim.Native.Nat.{ℕ}
use Rattle.gpio.specs.declared.candidates.Candidates.{Candidates}
use Rattle.gpio.specs.declared.candidates.Candidates.TheVariants.{Absent}
use Rattle.slot.specs.declared.description.Description.{Description}
use Rattle.listing.specs.Listing.{candidates_at}
use Rattle.listing.specs.Lines.{pin_socket, pin_candidates}
use Rattle.listing.proofs.lines.pin_candidates.Goals as goal

on : (d : Description) (pin p : ℕ) (s : Option ℕ) (g : Candidates) → s ≡ pin_socket d pin → s ≡ Some p → g ≡ candidates_at d.board p
    → g ≡ pin_candidates d pin
unfolding pin_candidates
on d pin p s g e f h = rw (← e, f) h

off : (d : Description) (pin : ℕ) (s : Option ℕ) → s ≡ pin_socket d pin → s ≡ None → Absent ≡ pin_candidates d pin
unfolding pin_candidates
off d pin s e f = rw (← e, f)

pub returns-in-Some : goal.returns-in-Some
returns-in-Some c =
    let a = c.args in
    on a.d a.pin _ _ _ c.pin_socket-s.ensures c.in-Some.is c.candidates_at.ensures

pub returns-in-None : goal.returns-in-None
returns-in-None c =
    let a = c.args in
    off a.d a.pin _ c.pin_socket-s.ensures c.in-None.is
