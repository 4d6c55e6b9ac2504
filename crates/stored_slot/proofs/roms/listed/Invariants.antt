-- `listed` meets its contract. The invariant: `n` is how many of the entries passed are listed. Assumes nothing.
use mathlib.Core.Path.{◌≡◌}
use Prim.Native.Nat.{◌≤◌}
use Rattle.stored_slot.specs.Stored.{map_lines}
use Rattle.stored_slot.proofs.roms.listed.Given as goal

abbrev pub invariant-loop-k : goal.invariant-loop-k
invariant-loop-k l = (l.k ≤ 32) × (l.n ≡ map_lines l.k l.map)
