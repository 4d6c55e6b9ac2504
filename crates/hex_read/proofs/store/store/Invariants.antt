-- `store` meets its contract. The loop's invariant: what is left of the text, stored from here, makes what the whole of it does. Assumes nothing.
use mathlib.Core.Path.{◌≡◌}
use lib.ListN.{length}
use Rattle.hex_read.specs.Lines.{lines_of}
use Rattle.hex_read.specs.Read.{stored}
use Rattle.hex_read.specs.Design.Places.{AllSound}
use Rattle.hex_read.proofs.store.store.Given as goal

abbrev pub invariant-loop-rest : goal.invariant-loop-rest
invariant-loop-rest l =
    (length l.chip ≡ length l.initial.chip) × AllSound (length l.initial.chip) l.upper (lines_of l.rest) × (stored l.upper (lines_of l.rest) l.chip ≡ stored 0 (lines_of l.text) l.initial.chip)

abbrev pub decreases-loop-rest : goal.decreases-loop-rest
decreases-loop-rest l = length l.rest
