-- `word_at` meets its contract. The loop's invariant: the bytes from k on are taken. Assumes nothing.
use mathlib.Core.Path.{◌≡◌}
use mathlib.Core.List.{List}
use Prim.Native.Nat.{ℕ, ◌+◌, ◌*◌, ◌-◌, ◌^◌, ◌≤◌, ◌<◌}
use Rattle.words.specs.Words.{word_from}
use Rattle.words.proofs.word_at.Given as goal

-- the bytes from k on, as a word that fits them
pub record Taken (b : List ℕ) (at w k v : ℕ) : Type 0 where
  pub within : k ≤ w
  pub is : v ≡ word_from (w - k) b (at + k)
  pub fits : v < 2 ^ (8 * (w - k))

abbrev pub invariant-loop-k : goal.invariant-loop-k
invariant-loop-k l = Taken l.b l.at l.w l.k l.whole
