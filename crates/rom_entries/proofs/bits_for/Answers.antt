-- `bits_for` meets its contract. The loop's invariant: no value before j picks the place. Assumes nothing.
use mathlib.Core.Path.{sym, ◌∙◌}
use native.Mathlib.Omega.{arith}
use borrow.Author.Tests.{eq-eqb}
use Rattle.lists.proofs.First.{first_here, first_nowhere}
use Rattle.rom_entries.proofs.bits_for.Goals as goal

pub returns-then-entry-k : goal.returns-then-entry-k
returns-then-entry-k c =
    first_here _ _ _ c.loop-j.invariant.1 (omega arith) (eq-eqb _ _ (sym c.entry.ensures ∙ c.if-entry-k.true))

pub returns : goal.returns
returns c = first_nowhere _ _ _ c.loop-j.invariant.1 (omega arith)
