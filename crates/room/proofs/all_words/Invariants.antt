-- `all_words` meets its contract. The invariant: `words` is those of the chips passed. Assumes nothing.
use mathlib.Core.Path.{◌≡◌}
use Prim.Native.Nat.{◌≤◌, ◌*◌, ◌^◌}
use Rattle.premises.specs.Room.{words_to}
use Rattle.room.proofs.all_words.Given as goal

abbrev pub invariant-loop-k : goal.invariant-loop-k
invariant-loop-k l = (l.k ≤ l.n) × (l.words ≡ words_to l.d l.a l.k) × (l.words ≤ l.k * 2 ^ 32)
