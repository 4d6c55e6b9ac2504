-- `picks_in` meets its contract. The invariant: `ok` says whether the lines passed have positions. Assumes nothing.
use mathlib.Core.Path.{◌≡◌}
use Rattle.lists.specs.Each.{each}
use Rattle.picks.specs.Positions.{x_position_in}
use Rattle.build_args.specs.Picks.{pick_of}
use Rattle.build_args.proofs.lines.picks_in.Given as goal

abbrev pub invariant-loop-k : goal.invariant-loop-k
invariant-loop-k l = l.ok ≡ each l.k (λ j. x_position_in l.a.gpio_base (pick_of l.set_type l.a l.c j))
