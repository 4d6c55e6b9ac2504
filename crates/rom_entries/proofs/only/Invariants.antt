-- `only` meets its contract. The loop's invariant: no other value passed picks the place. Assumes nothing.
use mathlib.Core.Path.{◌≡◌}
use Prim.Native.Nat.{◌≤◌}
use mathlib.Core.Bool.{true}
use Rattle.rom_entries.proofs.Suited.{Passed}
use Rattle.rom_entries.proofs.only.Given as goal

abbrev pub invariant-loop-j : goal.invariant-loop-j
invariant-loop-j l = (l.j ≤ l.n) × (l.ok ≡ true → Passed l.roms l.n l.k l.b l.j)
