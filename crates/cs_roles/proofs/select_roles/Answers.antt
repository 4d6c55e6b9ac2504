-- `select_roles` meets its contract. Assumes nothing.
use mathlib.Core.Path.{◌≡◌, sym, ◌∙◌}
use mathlib.Core.List.{List, [], ◌∷◌, ◌++◌}
use Prim.Native.Nat.{ℕ}
use native.Mathlib.Omega.{arith}
use Rattle.cs_roles.specs.Roles.{select_roles}
use Rattle.cs_roles.proofs.select_roles.Goals as goal

behind : (ks ls ms xs : List ℕ) (k : ℕ) → ks ≡ [] → ls ≡ ks ++ (k ∷ []) → ms ≡ ls ++ xs → ms ≡ k ∷ xs
behind ks ls ms xs k e f h = rw (h, f, e)

pub returns-then-is_multi : goal.returns-then-is_multi
unfolding select_roles
returns-then-is_multi c =
    let p = c.before.before.before in (
      rw (sym p.is_multi.ensures ∙ p.if-is_multi.true)
          (behind _ _ _ _ _ p.no_roles.ensures.0 c.push_role-select.ensures.0 c.x_roles.ensures.0),
      omega (arith, c.x_roles.ensures.1, c.push_role-select.ensures.1, p.no_roles.ensures.1),
    )

pub returns : goal.returns
unfolding select_roles
returns c = (rw (sym c.is_multi.ensures ∙ c.if-is_multi.false) c.active_roles.ensures.0, c.active_roles.ensures.1)
