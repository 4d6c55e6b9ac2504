-- `description_at` meets its contract: a record has its length. Assumes nothing.
use mathlib.Core.Path.{◌≡◌}
use mathlib.Core.Bool.{true}
use mathlib.Core.List.{List}
use Prim.Native.Nat.{ℕ}
use lib.ListN.{length}
use borrow.Author.Tests.{eqb-true}
use Rattle.lists.proofs.Bools.{and_left}
use Rattle.description_record.specs.Record.{record_size, well_formed}
use Rattle.description_record.proofs.description_at.Goals as goal

long : (b : List ℕ) → well_formed b ≡ true → length b ≡ record_size
unfolding well_formed
long b e = eqb-true (length b) record_size (and_left _ _ (and_left _ _ (and_left _ _ (and_left _ _ e))))

pub unwrap-requires : goal.unwrap-requires
unwrap-requires c = c.try_from.ensures.0 (long _ c.requires)
