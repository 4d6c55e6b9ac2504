-- `reading` meets its contract. Assumes nothing.
use Rattle.unscramble.specs.Design.Reading.{reading_of}
use Rattle.unscramble.proofs.reading.reading.Goals as goal

pub returns : goal.returns
unfolding reading_of
returns c =
    rw (
      c.address_maps.ensures,
      c.data_maps.ensures,
      c.places.ensures,
      c.extents.ensures,
      c.forced.ensures,
      c.forced_high.ensures,
      c.word_bytes.ensures,
      c.words_before.ensures.value,
    )
