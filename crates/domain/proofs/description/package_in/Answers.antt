-- `package_in` meets its contract. Assumes nothing.
use mathlib.Core.Path.{sym, ◌∙◌}
use Rattle.domain.specs.Domain.{package_in}
use Rattle.domain.proofs.description.package_in.Goals as goal

pub returns-then-is_a : goal.returns-then-is_a
unfolding package_in
returns-then-is_a c = rw (c.no_candidate_above.ensures, sym c.is_a.ensures ∙ c.if-is_a.true)

pub returns : goal.returns
unfolding package_in
returns c = rw (sym c.is_a.ensures ∙ c.if-is_a.false)
