-- `list_selects` meets its contract. Assumes nothing.
use mathlib.Core.Path.{◌≡◌, sym, ◌∙◌}
use mathlib.Core.List.{List, [], ◌∷◌, ◌++◌, append_assoc}
use native.Mathlib.Omega.{arith}
use Rattle.listing.specs.Design.Packed.{list_of}
use Rattle.listing.specs.declared.Listed.{Listed}
use Rattle.cs_pins.specs.Pins.{select_listed}
use Rattle.cs_pins.proofs.list_selects.Goals as goal

behind : (before ls ms xs : List Listed) (p q : Listed) → ls ≡ before ++ (p ∷ []) → p ≡ q → ms ≡ ls ++ xs → ms ≡ before ++ (q ∷ xs)
behind before ls ms xs p q e f h = rw (h, e, f, append_assoc)

pub returns-then-is_multi : goal.returns-then-is_multi
unfolding select_listed
returns-then-is_multi c = (
  rw (sym c.is_multi.ensures ∙ c.if-is_multi.true)
      (behind (list_of c.args.before) _ _ _ _ _ c.push-with_select.ensures.0 c.kind_listed.ensures c.push_x.ensures.0),
  omega (arith, c.push_x.ensures.1, c.push-with_select.ensures.1),
)

pub returns : goal.returns
unfolding select_listed
returns c =
    (rw (sym c.is_multi.ensures ∙ c.if-is_multi.false) c.list_active.ensures.0, omega (arith, c.list_active.ensures.1))
