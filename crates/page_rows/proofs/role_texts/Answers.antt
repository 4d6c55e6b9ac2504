-- `role_texts` meets its contract: the table is tried against the rule, all of it at once. Assumes nothing.
use mathlib.Core.Path.{refl}
use Rattle.lists.specs.Tab.{tab}
use Rattle.page_rows.specs.Rows.{bytes_of, role_texts, role_text}
use Rattle.page_rows.proofs.role_texts.Goals as goal

pub returns : goal.returns
unfolding tab bytes_of role_texts role_text
returns c = refl
