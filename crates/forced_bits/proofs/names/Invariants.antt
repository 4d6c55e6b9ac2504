-- `names` meets its contract. The loop's invariant: whether one of the entries passed names the GPIO. Assumes nothing.
use mathlib.Core.Path.{◌≡◌}
use Rattle.stored_slot.specs.Stored.{names}
use Rattle.forced_bits.proofs.names.Given as goal

abbrev pub invariant-loop-k : goal.invariant-loop-k
invariant-loop-k l = l.found ≡ names l.k l.overrides l.kind l.gpio
