-- `in_domain` meets its contract. Assumes nothing.
use Rattle.build_args.specs.Domain.{build_in}
use Rattle.build_args.proofs.in_domain.in_domain.Goals as goal

pub returns : goal.returns
unfolding build_in
returns c = rw (c.cs_data_in.ensures, c.layout_in.ensures, c.description_in.ensures, c.qualifiers_in-list_in.ensures)
