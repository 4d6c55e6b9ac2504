-- `high_word_at` meets its contract. The loop's invariant: the first k bytes are taken. Assumes nothing.
use mathlib.Core.Path.{◌≡◌}
use mathlib.Core.List.{List}
use Prim.Native.Nat.{ℕ, ◌*◌, ◌^◌, ◌≤◌, ◌<◌}
use Rattle.words.specs.Words.{chip_word_from}
use Rattle.words.specs.declared.ByteOrder.TheVariants.{HighFirst}
use Rattle.words.proofs.high_word_at.Given as goal

-- the first k bytes, as a word that fits them
pub record Taken (b : List ℕ) (at w k v : ℕ) : Type 0 where
  pub within : k ≤ w
  pub is : v ≡ chip_word_from HighFirst k b at
  pub fits : v < 2 ^ (8 * k)

abbrev pub invariant-loop-k : goal.invariant-loop-k
invariant-loop-k l = Taken l.b l.at l.w l.k l.value
