-- `pick_positions` meets its contract. The invariant: the first k are in place. Assumes nothing.
use Rattle.lists.proofs.Tab.{Filled}
use Rattle.picks.specs.Positions.{x_position}
use Rattle.build_args.specs.Picks.{pick_of}
use Rattle.build_wiring.proofs.wiring.pick_positions.Given as goal

abbrev pub invariant-loop-k : goal.invariant-loop-k
invariant-loop-k l = Filled 3 (λ j. x_position l.a.gpio_base (pick_of l.set_type l.a l.c j)) l.out l.k
