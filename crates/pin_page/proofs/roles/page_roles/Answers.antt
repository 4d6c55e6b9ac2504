-- `page_roles` meets its contract. Assumes nothing.
use Rattle.pin_page.specs.Roles.{role_of}
use Rattle.pin_page.proofs.Marks.{marked-behind}
use Rattle.pin_page.proofs.Firsts.{firsts}
use Rattle.pin_page.proofs.roles.page_roles.Goals as goal

pub returns : goal.returns
unfolding role_of
returns c = firsts _ _ (marked-behind _ _ _ _ _ c.mark_addr.ensures c.mark_cs_data.ensures)
