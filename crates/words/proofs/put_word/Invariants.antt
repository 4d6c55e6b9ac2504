-- `put_word` meets its contract. The loop's invariant: what is written, then the bytes that are left. Assumes nothing.
use mathlib.Core.Path.{◌≡◌}
use mathlib.Core.List.{List, ◌++◌}
use Prim.Native.Nat.{ℕ, ◌+◌, ◌-◌, ◌≤◌}
use lib.ListN.{length, take, drop}
use Rattle.words.specs.Words.{bytes_of}
use Rattle.words.proofs.put_word.Given as goal

-- k bytes are written: with the bytes that are left behind them it would be the whole
pub record Written (old : List ℕ) (at w x : ℕ) (out : List ℕ) (rest k : ℕ) : Type 0 where
  pub within : k ≤ w
  pub long : length out ≡ length old
  pub left : take (at + k) out ++ bytes_of (w - k) rest ++ drop (at + w) out ≡ take at old ++ bytes_of w x ++ drop (at + w) old

abbrev pub invariant-loop-k : goal.invariant-loop-k
invariant-loop-k l = Written l.initial.out l.at l.w l.x l.out l.rest l.k
