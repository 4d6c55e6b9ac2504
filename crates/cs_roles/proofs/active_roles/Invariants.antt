-- `active_roles` meets its contract. The loop's invariant: the roles of the active ones of the lines passed are there. Assumes nothing.
use mathlib.Core.Path.{◌≡◌}
use Prim.Native.Nat.{◌≤◌}
use Rattle.slot.specs.Description.{chip0}
use Rattle.cs_roles.specs.Roles.{active_kinds, roles_of}
use Rattle.cs_roles.proofs.active_roles.Given as goal

abbrev pub invariant-loop-k : goal.invariant-loop-k
invariant-loop-k l =
    (l.k ≤ l.count) × (l.count ≤ 8) × (l.count ≡ (chip0 l.d).control.count) × (l.r.count ≤ l.k) × (roles_of l.r ≡ active_kinds l.d l.k)
