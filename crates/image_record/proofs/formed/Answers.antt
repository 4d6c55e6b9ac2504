-- `formed` meets its contract: each chip is looked at. Assumes nothing.
use Rattle.lists.specs.Each.{each}
use Rattle.image_record.specs.ImageRecord.{spans_formed}
use Rattle.image_record.proofs.formed.Goals as goal

pub returns : goal.returns
unfolding spans_formed each
returns c = rw (c.flag_formed-fourth.ensures, c.flag_formed-third.ensures, c.flag_formed-second.ensures, c.flag_formed-first.ensures)
