-- `read_roms` meets its contract. The loop's invariant: the words of the ROMs passed are read. Assumes nothing.
use mathlib.Core.Path.{◌≡◌}
use Prim.Native.Nat.{◌^◌, ◌≤◌}
use lib.ListN.{length}
use Rattle.word_read.specs.Design.Words.{WordsRead}
use Rattle.word_read.proofs.read_roms.Given as goal

abbrev pub invariant-loop-k : goal.invariant-loop-k
invariant-loop-k l = (l.k ≤ 5) × (length l.output ≡ length l.initial.output) × WordsRead l.r l.stored (2 ^ l.pins) l.k l.m l.initial.output l.output
