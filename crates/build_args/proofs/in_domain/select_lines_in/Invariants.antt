-- `select_lines_in` meets its contract. The invariant: `ok` says whether the lines passed keep to the domain. Assumes nothing.
use mathlib.Core.Path.{◌≡◌}
use Rattle.lists.specs.Each.{each}
use Rattle.build_args.specs.Domain.{select_line_of, select_line_in}
use Rattle.build_args.proofs.in_domain.select_lines_in.Given as goal

abbrev pub invariant-loop-k : goal.invariant-loop-k
invariant-loop-k l = l.ok ≡ each l.k (λ j. select_line_in (select_line_of l.c l.commoned j))
