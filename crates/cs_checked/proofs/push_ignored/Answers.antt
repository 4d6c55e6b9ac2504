-- `push_ignored` meets its contract. The loop's invariant: the ignored lines passed are listed. Assumes nothing.
use mathlib.Core.Path.{◌≡◌, refl, ◌∙◌, ap}
use Prim.Native.Nat.{ℕ, ◌+◌}
use native.Mathlib.Nat.{add-zero}
use native.Mathlib.Omega.{arith}
use Rattle.lists.proofs.Lists.{mapped_length}
use Rattle.listing.proofs.Pushed.{behind-none, behind-turn, behind_to}
use Rattle.cs_checked.specs.Checked.{ignored_listed}
use borrow.Author.Rules.{rules}
use Rattle.cs_checked.proofs.push_ignored.Goals as goal

pub loop-k-init : goal.loop-k-init
loop-k-init c = (omega arith, omega arith, omega arith, refl, behind-none (search (mapped_length, rules)) (add-zero _) refl)

pub loop-k-preserved : goal.loop-k-preserved
loop-k-preserved c =
    let v = c.loop-k in
    (omega arith, v.invariant.1, v.invariant.2, v.invariant.3, behind-turn _ v.invariant.4 (omega arith) (omega arith) (c.kind_listed.ensures ∙ rw c.entry.ensures))

pub returns : goal.returns
unfolding ignored_listed
returns c =
    let v = c.loop-k in
    let a = c.args in
    let e : v.k ≡ a.d.multi.num_ignored = omega arith in
    (behind_to v.invariant.4 (ap (λ (x : ℕ). a.before.count + x) e) e, omega arith)
