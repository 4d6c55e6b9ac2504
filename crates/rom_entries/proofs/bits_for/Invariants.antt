-- `bits_for` meets its contract. The loop's invariant: no value before j picks the place. Assumes nothing.
use mathlib.Core.Path.{◌≡◌}
use mathlib.Core.Bool.{false}
use Prim.Native.Nat.{ℕ, ◌≤◌, ◌<◌}
use lib.Dec.{eqb}
use lib.ListN.{get_or}
use Rattle.rom_entries.proofs.bits_for.Given as goal

abbrev pub invariant-loop-j : goal.invariant-loop-j
invariant-loop-j l = (l.j ≤ l.n) × ((i : ℕ) → i < l.j → eqb (get_or l.roms i 0) l.k ≡ false)
