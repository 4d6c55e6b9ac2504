-- `list` meets its contract. Assumes nothing.
use mathlib.Core.Path.{◌≡◌, sym, ◌∙◌}
use mathlib.Core.Bool.{true, false}
use mathlib.Core.List.{List, ◌++◌, append-nil}
use native.Mathlib.Omega.{arith}
use Rattle.slot.specs.Description.{is_multi}
use Rattle.slot.specs.declared.description.Description.{Description}
use Rattle.listing.specs.declared.Listed.{Listed}
use Rattle.cs_pins.specs.Pins.{data_listed, select_listed, multi_commoned, commoned_listed, numbered}
use Rattle.cs_pins.proofs.list.Goals as goal

with-commoned : (d : Description) (ls ms ns cs : List Listed) → ls ≡ data_listed d → ms ≡ ls ++ select_listed d → cs ≡ commoned_listed d → ns ≡ ms ++ cs
    → ns ≡ numbered d
unfolding numbered
with-commoned d ls ms ns cs e f g h = rw (h, f, e, g)

commoned_is : (d : Description) → is_multi d.set_type ≡ true → multi_commoned d ≡ commoned_listed d
unfolding commoned_listed
commoned_is d e = rw e

without : (d : Description) (ls ms : List Listed) → is_multi d.set_type ≡ false → ls ≡ data_listed d → ms ≡ ls ++ select_listed d → ms ≡ numbered d
unfolding numbered commoned_listed
without d ls ms m e f = rw (m, f, e, append-nil)

pub returns-then-has_commoned : goal.returns-then-has_commoned
returns-then-has_commoned c =
    let d = c.args.d in (
      with-commoned d _ _ _ _ c.list_data.ensures.0 c.list_selects-selects.ensures.0
          (commoned_is d (sym c.is_multi-has_commoned.ensures ∙ c.if-has_commoned.true)) c.push_commoned.ensures.0,
      omega (arith, c.push_commoned.ensures.1, c.list_selects-selects.ensures.1),
    )

pub returns : goal.returns
returns c =
    let d = c.args.d in (
      without d _ _ (sym c.is_multi-has_commoned.ensures ∙ c.if-has_commoned.false) c.list_data.ensures.0 c.list_selects-selects.ensures.0,
      omega (arith, c.list_selects-selects.ensures.1),
    )
