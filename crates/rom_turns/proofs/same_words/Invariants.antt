-- `same_words` meets its contract. The loop's invariant: the rows passed are the same. Assumes nothing.
use mathlib.Core.Path.{◌≡◌}
use Prim.Native.Nat.{◌+◌, ◌*◌, min}
use mathlib.Core.Bool.{true}
use Rattle.rom_turns.specs.Design.Rom.{SameTurn, says}
use Rattle.rom_turns.proofs.same_words.Given as goal

abbrev pub invariant-loop-k : goal.invariant-loop-k
invariant-loop-k l =
    l.ok ≡ true → SameTurn l.rom (λ a. says l.rom l.positions l.entries.low_bytes.now l.entries.high_bytes.now l.entries.stored.now (l.e + a)) l.output (min (256 * l.k) l.rom.words)
