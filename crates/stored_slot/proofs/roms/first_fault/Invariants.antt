-- `first_fault` meets its contract. The invariant: `fault` is that of the ROMs passed. Assumes nothing.
use mathlib.Core.Path.{◌≡◌}
use Prim.Native.Nat.{◌≤◌}
use Rattle.refusal.specs.First.{first_of}
use Rattle.stored_slot.specs.Faults.{rom_fault}
use Rattle.stored_slot.proofs.roms.first_fault.Given as goal

abbrev pub invariant-loop-k : goal.invariant-loop-k
invariant-loop-k l = (l.k ≤ l.n) × (l.fault ≡ first_of l.k (rom_fault l.s))
