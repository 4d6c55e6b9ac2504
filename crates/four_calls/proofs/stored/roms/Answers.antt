-- `roms` meets its contract. The invariant: the first k are in place. Assumes nothing.
use mathlib.Core.Path.{refl}
use Prim.Native.Nat.{◌-◌}
use native.Mathlib.Omega.{arith}
use Rattle.lists.proofs.Tab.{filled_none, filled_turn, filled}
use Rattle.four_calls.proofs.stored.roms.Goals as goal

pub loop-k-init : goal.loop-k-init
loop-k-init c = filled_none refl

pub loop-k-preserved : goal.loop-k-preserved
loop-k-preserved c = filled_turn c.loop-k.invariant (omega arith) c.rom.ensures
