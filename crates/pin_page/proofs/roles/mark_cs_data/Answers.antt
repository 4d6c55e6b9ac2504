-- `mark_cs_data` meets its contract. Assumes nothing.
use native.Mathlib.Omega.{arith}
use Rattle.build_args.proofs.Facts.{data-count, selects_in, commoned_in}
use Rattle.pin_page.specs.Roles.{cs_data_page_lines}
use Rattle.pin_page.proofs.Marks.{marked-behind}
use Rattle.pin_page.proofs.roles.mark_cs_data.Goals as goal

pub mark_numbered-requires : goal.mark_numbered-requires
mark_numbered-requires c = omega (arith, data-count c.args.c c.requires)

pub mark_lines-requires : goal.mark_lines-requires
mark_lines-requires c = selects_in c.args.c c.requires

pub mark_lines-requires-2 : goal.mark_lines-requires-2
mark_lines-requires-2 c = commoned_in c.args.c c.requires

pub returns : goal.returns
unfolding cs_data_page_lines
returns c =
    marked-behind _ _ _ _ _ c.mark_numbered.ensures
    (marked-behind _ _ _ _ _ c.mark_lines.ensures c.mark_lines-2.ensures)
