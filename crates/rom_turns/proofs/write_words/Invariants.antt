-- `write_words` meets its contract. The loop's invariant: the rows passed are written. Assumes nothing.
use mathlib.Core.Path.{◌≡◌}
use Prim.Native.Nat.{◌+◌, ◌*◌, min}
use lib.ListN.{length}
use Rattle.word_rows.specs.Design.Wrote.{Wrote}
use Rattle.rom_turns.specs.Design.Rom.{says}
use Rattle.rom_turns.proofs.write_words.Given as goal

abbrev pub invariant-loop-k : goal.invariant-loop-k
invariant-loop-k l =
    (length l.output ≡ length l.initial.output)
    × Wrote l.rom.word_bytes (λ a. says l.rom l.positions l.entries.low_bytes.now l.entries.high_bytes.now l.entries.stored.now (l.e + a)) l.rom.start (min (256 * l.k) l.rom.words) l.initial.output l.output
