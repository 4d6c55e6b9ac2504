-- `lines_in` meets its contract. Assumes nothing.
use Rattle.build_args.specs.Faults.{data_positions_in}
use Rattle.build_faults.proofs.lines_in.Goals as goal

pub returns : goal.returns
unfolding data_positions_in
returns c = rw c.data_base.ensures at c.positions_in.ensures
