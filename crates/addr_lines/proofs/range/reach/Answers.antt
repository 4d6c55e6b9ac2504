-- `reach` meets its contract. The loop's invariant: `entries` is 2 ^ k, and `lines` counts those passed that the limit holds. Assumes nothing.
use mathlib.Core.Path.{◌≡◌, refl}
use Prim.Native.Nat.{ℕ, ◌+◌, ◌*◌, ◌^◌, ◌≤◌}
use native.Mathlib.Numerals.{add-one}
use native.Mathlib.Omega.{arith}
use native.Mathlib.Nat.{pow-suc}
use lib.Pow.{pow_mono}
use Rattle.lists.specs.Each.{tally}
use Rattle.lists.proofs.Each.{tally-none, tally-turn}
use Rattle.addr_lines.specs.Range.{reach}
use Rattle.lists.proofs.Loops.{at-count_of}
use Rattle.addr_lines.proofs.range.reach.Goals as goal

doubled : (k n : ℕ) → n ≡ 2 ^ k → n * 2 ≡ 2 ^ (k + 1)
doubled k n e = rw (add-one, pow-suc, e)

pub loop-k-init : goal.loop-k-init
loop-k-init c = (omega arith, omega arith, refl, tally-none _)

pub overflow_mul-entries : goal.overflow_mul-entries
overflow_mul-entries c =
    let v = c.loop-k in
    let h : 2 ^ v.k ≤ 2 ^ 20 = pow_mono {i = v.k} {j = 20} (omega arith) in
    record { fits = omega arith }

pub loop-k-preserved : goal.loop-k-preserved
loop-k-preserved c =
    let v = c.loop-k in
    let e = doubled v.k v.entries v.invariant.2 in
    (omega arith, omega arith, e, rw (c.one_if-lines.ensures.value, e) (tally-turn _ _ _ v.invariant.3))

pub returns : goal.returns
unfolding reach
returns c =
    let v = c.loop-k in
    let e : v.k ≡ 20 = omega arith in
    record { value = at-count_of tally _ _ _ _ e (rw c.most_entries-limit.ensures at v.invariant.3); upper_bound = omega arith }
