-- `chip_select_logic` meets its contract: each arm is a row of the rule. Assumes nothing.
use native.Mathlib.Omega.{arith}
use borrow.Author.Tests.{ne_eqb}
use Rattle.control.specs.CsConfig.{chip_select_logic}
use Rattle.control.proofs.cs_config.chip_select_logic.Goals as goal

pub returns-in-2 : goal.returns-in-2
unfolding chip_select_logic
returns-in-2 c = rw c.in-2.is

pub returns-in-3 : goal.returns-in-3
unfolding chip_select_logic
returns-in-3 c = rw c.in-3.is c.given_or_low.ensures

pub returns-in-4 : goal.returns-in-4
unfolding chip_select_logic
returns-in-4 c = rw c.in-4.is c.given_or_low-in-4.ensures

pub returns-in-5 : goal.returns-in-5
unfolding chip_select_logic
returns-in-5 c = rw c.in-5.is c.given_or_low-in-5.ensures

pub returns-in_default : goal.returns-in_default
unfolding chip_select_logic
returns-in_default c = rw (ne_eqb c.args.kind 2 (λ h. omega arith), ne_eqb c.args.kind 3 (λ h. omega arith), ne_eqb c.args.kind 4 (λ h. omega arith), ne_eqb c.args.kind 5 (λ h. omega arith))
