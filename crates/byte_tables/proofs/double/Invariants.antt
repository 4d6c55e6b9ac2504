-- `double` meets its contract. The loop's invariant: the first entries are as they were, and those passed stand again. Assumes nothing.
use mathlib.Core.Path.{◌≡◌}
use mathlib.Core.List.{List}
use Prim.Native.Nat.{ℕ, ◌+◌, ◌≤◌, ◌<◌}
use lib.Bits.{bit_or}
use lib.ListN.{length, get_or}
use Rattle.byte_tables.proofs.double.Given as goal

pub record Again (size one : ℕ) (old out : List ℕ) (q : ℕ) : Type 0 where
  pub within : q ≤ size
  pub long : length out ≡ length old
  pub first : (j : ℕ) → j < size → get_or out j 0 ≡ get_or old j 0
  pub again : (j : ℕ) → j < q → get_or out (size + j) 0 ≡ bit_or (get_or old j 0) one

abbrev pub invariant-loop-q : goal.invariant-loop-q
invariant-loop-q l = Again l.size l.one l.initial.out l.out l.q
