-- `commoned_lines` meets its contract. The loop's invariant: the lines passed are in place. Assumes nothing.
use mathlib.Core.Path.{◌≡◌, refl, ◌∙◌}
use mathlib.Core.List.{List}
use Prim.Native.Nat.{ℕ, ◌+◌}
use lib.ListN.{get_or}
use Rattle.lists.proofs.Tab.{filled_none, filled_turn}
use Rattle.slot.specs.declared.description.Description.{Description}
use Rattle.cs_data_layout.specs.Choices.{commoned_line}
use Rattle.cs_data_layout.specs.declared.layout.SelectLine.{SelectLine}
use borrow.Author.Rules.{rules}
use Rattle.cs_data_layout.proofs.layouts.commoned_lines.Goals as goal

of_entry : (d : Description) (gpios : List ℕ) (at k g : ℕ) (l : SelectLine) → l ≡ commoned_line d (λ j. g) k → g ≡ get_or gpios (at + k) 0
    → l ≡ commoned_line d (λ j. get_or gpios (at + j) 0) k
of_entry d gpios at k g l e f = e ∙ rw f

pub loop-k-init : goal.loop-k-init
loop-k-init c = (filled_none refl, search rules)

pub loop-k-preserved : goal.loop-k-preserved
loop-k-preserved c =
    let i = c.loop-k.invariant in
    let a = c.args in
    (filled_turn i.0 c.loop-k-test.true (of_entry a.d a.gpios a.at c.loop-k.k _ _ c.commoned_line.ensures c.entry.ensures), i.1)
