-- `parts` meets its contract. The loop's invariant: the tables of the maps passed stand one behind the other. Assumes nothing.
use mathlib.Core.Path.{◌≡◌}
use mathlib.Core.List.{List}
use Prim.Native.Nat.{ℕ, ◌*◌, ◌/◌, ◌%◌, ◌^◌, ◌≤◌, ◌<◌}
use lib.ListN.{length, get_or}
use Rattle.entry_words.specs.Design.Reading.{part_by}
use Rattle.entry_words.specs.declared.Map.{Map}
use Rattle.entry_walk.proofs.maps.parts.Given as goal

pub record Standing (maps : List Map) (unit : ℕ) (out : List ℕ) (k : ℕ) : Type 0 where
  pub within : k ≤ 5
  pub long : length out ≡ 1280
  pub there : (j : ℕ) → j < k * 256 → get_or out j 0 ≡ part_by maps (j / 256) (j % 256 * unit)

abbrev pub invariant-loop-k : goal.invariant-loop-k
invariant-loop-k l = Standing l.maps (2 ^ l.up) l.out l.k
