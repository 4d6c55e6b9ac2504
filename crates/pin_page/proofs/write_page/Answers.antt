-- `write_page` meets its contract. Assumes nothing.
use mathlib.Core.Path.{◌≡◌, sym, ◌∙◌}
use mathlib.Core.Bool.{true}
use native.Mathlib.Omega.{arith}
use Rattle.pin_page.specs.Page.{layouts_in}
use Rattle.pin_page.proofs.Writes.{roles_in, writes_none, writes_short, writes_all}
use Rattle.pin_page.proofs.write_page.Goals as goal

pub returns-then-not-layouts_in : goal.returns-then-not-layouts_in
returns-then-not-layouts_in c = writes_none _ _ _ (sym c.layouts_in.ensures ∙ c.if-not-layouts_in.true)

pub returns-then-page-lt-SIZE : goal.returns-then-page-lt-SIZE
returns-then-page-lt-SIZE c = writes_short c.args.addr c.args.cs_data _ (let h : layouts_in c.args.addr c.args.cs_data ≡ true = sym c.layouts_in.ensures ∙ c.if-not-layouts_in.false in h) (omega arith)

pub put_rows-requires : goal.put_rows-requires
put_rows-requires c =
    (omega arith, roles_in c.args.addr c.args.cs_data _ c.page_roles-roles.ensures)

pub returns : goal.returns
returns c =
    writes_all c.args.addr c.args.cs_data _ c.page_roles-roles.ensures (let h : layouts_in c.args.addr c.args.cs_data ≡ true = sym c.layouts_in.ensures ∙ c.if-not-layouts_in.false in h) _ _ (omega arith) c.put_rows.ensures
