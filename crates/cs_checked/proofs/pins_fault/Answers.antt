-- `pins_fault` meets its contract. Assumes nothing.
use mathlib.Core.Path.{sym, ◌∙◌}
use Rattle.cs_checked.specs.Checked.{checked}
use Rattle.cs_checked.proofs.pins_fault.Goals as goal

pub returns-then-is_multi : goal.returns-then-is_multi
unfolding checked
returns-then-is_multi c =
    let test = c.before.before.before.before.before in
    rw (
      sym test.is_multi.ensures ∙ c.if-is_multi.true,
      c.or.ensures,
      c.first_fault-then-is_multi.ensures,
      c.check_multi.ensures.0,
      c.first_fault.ensures,
      c.list_data.ensures.0,
    )
