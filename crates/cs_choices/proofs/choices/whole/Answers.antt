-- `whole` meets its contract. Assumes nothing.
use mathlib.Core.Path.{◌≡◌}
use mathlib.Core.List.{List}
use Prim.Native.Nat.{ℕ, ◌≤◌}
use native.Mathlib.Omega.{arith}
use lib.Bits.{bit_or}
use lib.ListN.{length, length-take, length-map}
use mathlib.Core.Bool.{false}
use Rattle.lists.proofs.Lists.{mapped_length}
use Rattle.listing.specs.Design.Packed.{list_of}
use Rattle.listing.specs.declared.Listed.{Listed}
use Rattle.cs_choices.specs.Design.Parts.{parts_of, sets_of}
use Rattle.cs_choices.specs.declared.choices.Sets.{Sets}
use Rattle.cs_choices.specs.Design.Laws.{data-whole, select-whole}
use borrow.Author.Rules.{rules}
use Rattle.cs_choices.proofs.choices.whole.Goals as goal

sets_are : (ls : List Listed) (n excess c : ℕ) (s : Sets) → n ≤ length ls → s ≡ parts_of ls n false 0 c
    → ◌≡◌ {A = Sets} (record { data_gpios = s.data_gpios; select_gpios = bit_or s.select_gpios excess }) (sets_of ls n excess c)
sets_are ls n excess c s h e = rw (e, data-whole ls n c, select-whole ls n c h excess)

pub returns : goal.returns
returns c =
    let l = c.args.l in
    let long : length l.pins ≡ 30 = search (mapped_length, rules) in
    let e : l.count ≡ length (list_of l) = simp (length-take, length-map) (omega arith) in
    sets_are _ _ _ _ _ (omega (arith, e)) c.parts-all.ensures
