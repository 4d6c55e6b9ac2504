-- `others_same` meets its contract. The loop's invariant: the turns passed are the same. Assumes nothing.
use mathlib.Core.Path.{◌≡◌}
use Prim.Native.Nat.{ℕ, ◌+◌, ◌≤◌, ◌<◌}
use mathlib.Core.Bool.{true}
use Rattle.rom_turns.specs.Design.Rom.{SameTurn, says, turn_start}
use Rattle.rom_turns.proofs.others_same.Given as goal

abbrev pub invariant-loop-c : goal.invariant-loop-c
invariant-loop-c l =
    (1 ≤ l.c)
    × (l.ok ≡ true → (d : ℕ) → 1 ≤ d → d < l.c → SameTurn l.rom (λ a. says l.rom l.positions l.entries.low_bytes.now l.entries.high_bytes.now l.entries.stored.now (turn_start l.rom d + a)) l.output l.rom.words)
