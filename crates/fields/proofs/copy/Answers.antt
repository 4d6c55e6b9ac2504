-- `copy` meets its contract. Assumes nothing.
use mathlib.Core.Path.{refl, ◌∙◌}
use native.Mathlib.Omega.{arith}
use Rattle.lists.proofs.Tab.{tab_part}
use Rattle.fields.proofs.copy.Goals as goal

pub returns : goal.returns
returns c = c.copy_from_slice.ensures.after ∙ tab_part _ _ _ _ refl (omega arith)
