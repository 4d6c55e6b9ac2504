-- `words_before` meets its contract. The invariant: `words` is those of the ROMs passed. Assumes nothing.
use mathlib.Core.Path.{◌≡◌}
use Prim.Native.Nat.{◌≤◌, ◌*◌, ◌^◌}
use Rattle.stored_slot.specs.Words.{words_before}
use Rattle.rom_words.proofs.words_before.Given as goal

abbrev pub invariant-loop-k : goal.invariant-loop-k
invariant-loop-k l = (l.k ≤ l.n) × (l.words ≡ words_before l.s l.k) × (l.words ≤ l.k * 2 ^ 32)
