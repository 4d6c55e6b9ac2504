-- `put_bytes` meets its contract. The loop's invariant: the digits of the bytes passed are laid over the text's. Assumes nothing.
use mathlib.Core.Path.{◌≡◌}
use Prim.Native.Nat.{◌≤◌}
use lib.ListN.{length, take}
use Rattle.laid_bytes.specs.Laid.{laid}
use Rattle.hex_write.specs.Text.{hex_bytes}
use Rattle.hex_write.proofs.record.put_bytes.Given as goal

abbrev pub invariant-loop-k : goal.invariant-loop-k
invariant-loop-k l = (l.k ≤ length l.bytes) × (length l.text ≡ length l.initial.text) × (l.text ≡ laid l.initial.text l.at (hex_bytes (take l.k l.bytes)))
