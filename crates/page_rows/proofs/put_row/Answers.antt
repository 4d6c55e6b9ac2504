-- `put_row` meets its contract. Assumes nothing.
use Rattle.page_rows.proofs.RowsLaid.{text_at, row_laid}
use Rattle.page_rows.proofs.put_row.Goals.{After-slice_known-2-1}
use Rattle.page_rows.proofs.put_row.Goals as goal

pub returns : goal.returns
returns c =
    row_laid c.args.page.now _ c.args.gpio c.args.role _ (text_at c.args.texts.now c.args.role c.requires.3 c.requires.1) c.put.ensures.buffer_after
