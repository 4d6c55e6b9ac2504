-- `derive_multi_cs_config` meets its contract: lines in the domain are at most 8, as `sort` asks. Assumes nothing.
use Rattle.std.specs.Prelude.{Result, Ok, Err}
use mathlib.Core.Path.{◌≡◌, sym, ◌∙◌}
use mathlib.Core.Bool.{true, cond}
use Prim.Native.Nat.{◌≤◌}
use Rattle.slot.specs.declared.description.ControlLines.{ControlLines}
use Rattle.slot.specs.declared.description.CsConfig.{CsConfig}
use Rattle.slot.specs.declared.description.MultiCsConfig.{MultiCsConfig}
use Rattle.refusal.specs.declared.Refusal.{Refusal}
use Rattle.refusal.specs.declared.Refusal.TheVariants.{NoActiveLine}
use Rattle.lists.proofs.Bools.{and_left}
use Rattle.domain.specs.Domain.{control_in}
use Rattle.multi_select.specs.MultiCsConfig.{multi_answer}
use Rattle.multi_select.specs.Design.Sorted.{sorted}
use Rattle.multi_select.specs.declared.Sorted.{Sorted}
use Rattle.multi_select.proofs.Sorting.{answers}
use borrow.Author.Tests.{leb-true}
use Rattle.multi_select.proofs.derive_multi_cs_config.Goals as goal

few : (lines : ControlLines) → control_in lines ≡ true → lines.count ≤ 8
few lines e = leb-true _ _ (and_left _ _ e)

-- in the domain, the sorted lines answer
sorted_answers : (lines : ControlLines) (chip0 secondary : CsConfig) (s : Sorted) → control_in lines ≡ true → s ≡ sorted lines chip0 secondary lines.count
    → ◌≡◌ {A = Result MultiCsConfig Refusal} (multi_answer lines chip0 secondary) (cond s.found (Ok s.config) (Err NoActiveLine))
sorted_answers lines chip0 secondary s e h = rw e (answers lines chip0 secondary s (few lines e) h)

pub returns-then-s : goal.returns-then-s
returns-then-s c =
    rw (sorted_answers _ _ _ _ (sym c.control_in.ensures ∙ c.if-not-control_in.false) c.sort-s.ensures, c.if-s.true)

pub returns-else-s : goal.returns-else-s
returns-else-s c =
    rw (sorted_answers _ _ _ _ (sym c.control_in.ensures ∙ c.if-not-control_in.false) c.sort-s.ensures, c.if-s.false)
