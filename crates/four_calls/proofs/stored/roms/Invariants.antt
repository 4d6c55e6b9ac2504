-- `roms` meets its contract. The invariant: the first k are in place. Assumes nothing.
use Prim.Native.Nat.{◌-◌}
use Rattle.lists.proofs.Tab.{Filled}
use Rattle.round_trip.specs.Stored.{stored_rom}
use Rattle.four_calls.proofs.stored.roms.Given as goal

abbrev pub invariant-loop-k : goal.invariant-loop-k
invariant-loop-k l = Filled 4 (stored_rom l.d l.a l.c) l.out l.k
