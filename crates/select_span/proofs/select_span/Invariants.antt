-- `select_span` meets its contract. The loop's invariant: `s` spans the select and the commoned lines passed. Assumes nothing.
use mathlib.Core.Path.{◌≡◌}
use Rattle.select_span.specs.Selects.{select_span}
use Rattle.select_span.proofs.select_span.Given as goal

abbrev pub invariant-loop-k : goal.invariant-loop-k
invariant-loop-k l = l.s ≡ select_span l.d l.k
