-- `rom_of` meets its contract. The invariant: `rom` is how many of the ROMs passed end before the word. Assumes nothing.
use mathlib.Core.Path.{◌≡◌}
use Prim.Native.Nat.{suc, ◌≤◌}
use lib.Dec.{leb}
use Rattle.lists.specs.Each.{tally}
use Rattle.stored_slot.specs.Words.{words_before}
use Rattle.unscramble.proofs.place.rom_of.Given as goal

abbrev pub invariant-loop-k : goal.invariant-loop-k
invariant-loop-k l = (l.k ≤ l.n) × (l.rom ≡ tally l.k (λ j. leb (words_before l.s (suc j)) l.f)) × (l.rom ≤ l.k)
