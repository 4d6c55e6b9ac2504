-- `best` meets its contract: before the first choice nothing is found. Assumes nothing.
use mathlib.Core.Path.{refl}
use Rattle.search.specs.Search.{best}
use Rattle.cs_choices.proofs.choices.best.Goals as goal

pub in_rows-requires-clause-begins : goal.in_rows-requires-clause-begins
unfolding best
in_rows-requires-clause-begins c = refl
