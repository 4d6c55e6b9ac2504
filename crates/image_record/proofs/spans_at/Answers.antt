-- `spans_at` meets its contract: each chip's span is what its 12 bytes have. Assumes nothing.
use Rattle.lists.specs.Tab.{tab}
use Rattle.image_record.proofs.spans_at.Goals as goal

pub returns : goal.returns
unfolding tab
returns c = rw (c.span_from-4.ensures, c.span_from-3.ensures, c.span_from-2.ensures, c.span_from.ensures)
