-- `judge` meets its contract. The loop's invariant: what is left of the text, judged from here, is the text's verdict; and as many lines
-- are counted as there are bytes passed, at most. Assumes nothing.
use mathlib.Core.Path.{◌≡◌}
use Prim.Native.Nat.{◌+◌, ◌≤◌}
use lib.ListN.{length}
use Rattle.hex_read.specs.Lines.{lines_of}
use Rattle.hex_read.specs.Read.{judged, verdict_of}
use Rattle.hex_read.proofs.judge.judge.Given as goal

abbrev pub invariant-loop-rest : goal.invariant-loop-rest
invariant-loop-rest l = (l.line + length l.rest ≤ length l.text + 1) × (judged l.size l.upper l.line (lines_of l.rest) ≡ verdict_of l.text l.size)

abbrev pub decreases-loop-rest : goal.decreases-loop-rest
decreases-loop-rest l = length l.rest
