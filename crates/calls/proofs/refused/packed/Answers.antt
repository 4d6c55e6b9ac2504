-- `packed` meets its contract. Assumes nothing.
use borrow.Author.Rules.{rules}
use Rattle.calls.specs.Packed.{packed_code}
use Rattle.calls.proofs.refused.packed.Goals as goal

pub returns : goal.returns
unfolding packed_code
returns c = search rules
