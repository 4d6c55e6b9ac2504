-- `description` meets its contract: each part is what its place has. Assumes nothing.
use mir.Syntax.{w8}
use mir.Facts.{to_z-of_z}
use borrow.Author.Rules.{sfits_of}
use Rattle.description_record.specs.Record.{described}
use Rattle.description_record.proofs.parts.description.Goals as goal

pub returns : goal.returns
unfolding described
returns c = rw (
  to_z-of_z (sfits_of {w = w8} c.pin_offset.type_inv),
  c.board.ensures,
  c.package_of.ensures,
  c.entry.ensures,
  c.set_type.ensures,
  c.entry-2.ensures,
  c.entry-3.ensures,
  c.pin_offset.ensures,
  c.entry-4.ensures,
  c.four_at.ensures,
  c.chips.ensures,
  c.entry-5.ensures,
  c.cs_config.ensures,
  c.entry-6.ensures,
  c.multi.ensures,
  c.bytes_at.ensures,
  c.entry-7.ensures,
)
