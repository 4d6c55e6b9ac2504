-- `stored_at` meets its contract: each part is what its place has. Assumes nothing.
use Rattle.stored_record.specs.StoredRecord.{stored_at}
use Rattle.stored_record.proofs.stored_at.Goals as goal

pub returns : goal.returns
unfolding stored_at
returns c = rw (
  c.four_at.ensures,
  c.slot_type.ensures,
  c.entry.ensures,
  c.entry-2.ensures,
  c.alg_addr.ensures,
  c.alg_data.ensures,
  c.alg_dma.ensures,
  c.alg_cs.ensures,
  c.overrides.ensures,
  c.entry-3.ensures,
  c.pair_at.ensures,
  c.pair_at-2.ensures,
  c.roms.ensures,
  c.entry-4.ensures,
)
