-- `byte_table` meets its contract. Assumes nothing.
use Rattle.entry_words.specs.Design.Reading.{gathered}
use Rattle.entry_words.proofs.byte_table.Goals as goal

pub returns : goal.returns
unfolding gathered
returns c = c.gather_table.ensures
