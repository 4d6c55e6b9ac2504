-- `fixed_span` meets its contract. Assumes nothing.
use mathlib.Core.Path.{sym, ◌∙◌}
use Rattle.select_span.specs.Selects.{fixed_span}
use Rattle.select_span.proofs.fixed_span.Goals as goal

pub returns-then-is_multi : goal.returns-then-is_multi
unfolding fixed_span
returns-then-is_multi c = rw (sym c.is_multi.ensures ∙ c.if-is_multi.true) c.select_span.ensures

pub returns : goal.returns
unfolding fixed_span
returns c = rw (sym c.is_multi.ensures ∙ c.if-is_multi.false) c.empty.ensures
