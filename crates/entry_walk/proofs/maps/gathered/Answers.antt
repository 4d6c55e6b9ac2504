-- `gathered` meets its contract. Assumes nothing.
use Rattle.entry_words.specs.Design.Reading.{gathered}
use Rattle.entry_walk.proofs.maps.gathered.Goals as goal

pub returns : goal.returns
unfolding gathered
returns c = c.gather.ensures.value
