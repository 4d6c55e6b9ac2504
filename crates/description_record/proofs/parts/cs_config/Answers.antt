-- `cs_config` meets its contract: each branch is one of the forms. Assumes nothing.
use borrow.Author.Tests.{eq-eqb, ne_eqb}
use Rattle.description_record.specs.Record.{cs_config_at}
use Rattle.description_record.proofs.parts.cs_config.Goals as goal

pub returns-then-form-eq0 : goal.returns-then-form-eq0
unfolding cs_config_at
returns-then-form-eq0 c = rw (← c.entry-form.ensures, eq-eqb _ _ c.if-form-eq0.true, c.setting-then-form-eq0-2.ensures, c.entry-then-form-eq0-3.ensures, c.setting-then-form-eq0.ensures, c.entry-then-form-eq0-2.ensures, c.setting.ensures, c.entry-then-form-eq0.ensures, c.logic.ensures, c.entry.ensures)

pub returns-then-form-eq1 : goal.returns-then-form-eq1
unfolding cs_config_at
returns-then-form-eq1 c = rw (← c.entry-form.ensures, ne_eqb _ _ c.if-form-eq0.false, eq-eqb _ _ c.if-form-eq1.true)

pub returns : goal.returns
unfolding cs_config_at
returns c = rw (← c.entry-form.ensures, ne_eqb _ _ c.if-form-eq0.false, ne_eqb _ _ c.if-form-eq1.false, c.logic-3.ensures, c.entry-3.ensures, c.logic-2.ensures, c.entry-2.ensures)
