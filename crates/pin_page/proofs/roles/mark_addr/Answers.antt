-- `mark_addr` meets its contract. Assumes nothing.
use Rattle.pin_page.specs.Roles.{addr_page_lines}
use Rattle.pin_page.proofs.Marks.{marked-behind}
use Rattle.pin_page.proofs.roles.mark_addr.Goals as goal

pub returns : goal.returns
unfolding addr_page_lines
returns c =
    marked-behind _ _ _ _ _ c.mark_numbered.ensures
    (marked-behind _ _ _ _ _ c.mark_x.ensures
    (marked-behind _ _ _ _ _ c.mark_x-2.ensures c.mark_excess.ensures))
