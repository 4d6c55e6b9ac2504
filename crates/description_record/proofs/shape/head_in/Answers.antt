-- `head_in` meets its contract: each place is looked at. Assumes nothing.
use Rattle.description_record.specs.Record.{head_in}
use Rattle.description_record.proofs.shape.head_in.Goals as goal

pub returns : goal.returns
unfolding head_in
returns c = rw (c.offset_in.ensures, c.entry-spare_2.ensures, c.entry-spare.ensures, c.four_at-inverted.ensures, c.entry-has_multi.ensures, c.entry-offset.ensures, c.entry-set_type.ensures, c.entry-package.ensures)
