-- `explicit_logic` meets its contract: each arm is a row of the rule. Assumes nothing.
use mathlib.Core.Path.{sym, ◌∙◌}
use native.Mathlib.Omega.{arith}
use borrow.Author.Tests.{ne_eqb}
use Rattle.control.specs.CsConfig.{explicit_logic}
use Rattle.control.proofs.cs_config.explicit_logic.Goals as goal

pub returns-in-0 : goal.returns-in-0
unfolding explicit_logic
returns-in-0 c = rw c.in-0.is

pub returns-in-1 : goal.returns-in-1
unfolding explicit_logic
returns-in-1 c = rw c.in-1.is

pub returns-then-swapped : goal.returns-then-swapped
unfolding explicit_logic
returns-then-swapped c =
    let k = c.before in
    rw (c.in-2.is, sym k.is_ignore-swapped.ensures ∙ c.if-swapped.true)

pub returns-else-swapped : goal.returns-else-swapped
unfolding explicit_logic
returns-else-swapped c =
    let k = c.before in
    rw (c.in-2.is, sym k.is_ignore-swapped.ensures ∙ c.if-swapped.false)

pub returns-then-swapped-2 : goal.returns-then-swapped-2
unfolding explicit_logic
returns-then-swapped-2 c =
    let k = c.before in
    rw (c.in-3.is, sym k.is_ignore-swapped.ensures ∙ c.if-swapped-2.true)

pub returns-else-swapped-2 : goal.returns-else-swapped-2
unfolding explicit_logic
returns-else-swapped-2 c =
    let k = c.before in
    rw (c.in-3.is, sym k.is_ignore-swapped.ensures ∙ c.if-swapped-2.false)

pub returns-in_default : goal.returns-in_default
unfolding explicit_logic
returns-in_default c = rw (ne_eqb c.args.kind 0 (λ h. omega arith), ne_eqb c.args.kind 1 (λ h. omega arith), ne_eqb c.args.kind 2 (λ h. omega arith), ne_eqb c.args.kind 3 (λ h. omega arith))
