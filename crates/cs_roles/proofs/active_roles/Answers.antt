-- `active_roles` meets its contract. The loop's invariant: the roles of the active ones of the lines passed are there. Assumes nothing.
use mathlib.Core.Path.{◌≡◌, ap}
use mathlib.Core.List.{List, [], ◌++◌}
use Prim.Native.Nat.{ℕ, ◌+◌}
use native.Mathlib.Numerals.{add-one}
use native.Mathlib.Omega.{arith}
use Rattle.slot.specs.declared.description.Chip.{Chip}
use Rattle.slot.specs.declared.description.Description.{Description}
use Rattle.cs_roles.specs.Roles.{if_active_kind, active_kinds}
use Rattle.cs_roles.proofs.active_roles.Goals as goal

first : (d : Description) (ks : List ℕ) → ks ≡ [] → ks ≡ active_kinds d 0
unfolding active_kinds
first d ks e = e

turn : (d : Description) (k : ℕ) (ks ms : List ℕ) → ks ≡ active_kinds d k → ms ≡ ks ++ if_active_kind d k → ms ≡ active_kinds d (k + 1)
unfolding active_kinds
turn d k ks ms e h = rw (add-one, h, e)

pub loop-k-init : goal.loop-k-init
loop-k-init c =
    let e = ap (λ (x : Chip). x.control.count) c.chip0-chip.ensures in
    (omega arith, omega (arith, e), e, omega (arith, c.no_roles-r.ensures.1), first _ _ c.no_roles-r.ensures.0)

pub loop-k-preserved : goal.loop-k-preserved
loop-k-preserved c =
    let v = c.loop-k in
    (omega arith, v.invariant.1, v.invariant.2, omega (arith, c.push_kind-r.ensures.1), turn _ _ _ _ v.invariant.4 c.push_kind-r.ensures.0)
