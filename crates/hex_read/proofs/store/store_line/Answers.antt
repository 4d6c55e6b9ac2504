-- `store_line` meets its contract: a record without data leaves the chip. Assumes nothing.
use mathlib.Core.Path.{sym, ◌∙◌}
use Rattle.hex_read.proofs.Stored.{line-fits}
use Rattle.hex_read.proofs.store.store_line.Goals as goal

pub put_data-requires : goal.put_data-requires
put_data-requires c =
    line-fits _ _ _ _ _ c.requires (sym c.is_data.ensures ∙ c.if-is_data.true) c.address.ensures.value c.count.ensures.value
