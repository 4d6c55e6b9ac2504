-- `line_listed` meets its contract. Assumes nothing.
use Rattle.std.specs.Prelude.{Option, Some, None}
use mathlib.Core.Path.{◌≡◌}
use Prim.Native.Nat.{ℕ}
use Rattle.gpio.specs.declared.candidates.Candidates.{Candidates}
use Rattle.slot.specs.declared.description.Description.{Description}
use Rattle.refusal.specs.declared.Refusal.TheVariants.{UnmappedPin}
use Rattle.listing.specs.declared.Listed.{Listed}
use Rattle.listing.specs.Listing.{listed, candidates_at}
use Rattle.addr_lines.specs.Lines.{line_socket, line_listed, overhanging}
use Rattle.addr_lines.proofs.line_listed.Goals as goal

on : (d : Description) (n p : ℕ) (s : Option ℕ) (g : Candidates) (l : Listed) → s ≡ line_socket d n → s ≡ Some p → g ≡ candidates_at d.board p
    → l ≡ listed g (UnmappedPin p) → l ≡ line_listed d n
unfolding line_listed
on d n p s g l e f h i = rw (← e, f, ← h) i

off : (d : Description) (n : ℕ) (s : Option ℕ) (l : Listed) → s ≡ line_socket d n → s ≡ None → l ≡ overhanging d n → l ≡ line_listed d n
unfolding line_listed
off d n s l e f h = rw (← e, f) h

pub returns-in-Some : goal.returns-in-Some
returns-in-Some c =
    let a = c.args in
    on a.d a.n _ _ _ _ c.line_socket-s.ensures c.in-Some.is c.candidates_at-gpios.ensures c.pack.ensures

pub returns-in-None : goal.returns-in-None
returns-in-None c =
    let a = c.args in
    off a.d a.n _ _ c.line_socket-s.ensures c.in-None.is c.overhanging.ensures
