-- `gap` meets its contract. Assumes nothing.
use mathlib.Core.Path.{◌≡◌}
use Prim.Native.Nat.{ℕ, ◌+◌, ◌-◌, ◌*◌, ◌/◌, ◌%◌, ◌^◌, ◌≤◌}
use mathlib.Core.Logic.{inl, inr}
use native.Mathlib.Nat.{eq-zero-or-pos}
use native.Mathlib.Omega.{arith}
use lib.Bits.{bit_xor}
use Rattle.gpio.specs.Set.{lowest, width, gap}
use Rattle.gpio.proofs.Sets.{ones_shifted, run_fits}
use Rattle.gpio.proofs.set.gap.Goals as goal

some : (w : ℕ) → (w ≡ 0 → ⊥) → 1 ≤ w
some w n = elim (eq-zero-or-pos w) [ inl e ↦ absurd (n e) | inr l ↦ l ]

-- what begins at the lowest ends at 64 at most
width-within : (s w low : ℕ) → w ≡ width s → low ≡ lowest s → (w ≡ 0 → ⊥) → w + low ≤ 64
width-within s w low p q n = omega (arith, p, q, some w n)

gap-some : (s w low : ℕ) → w ≤ 64 → w ≡ width s → low ≡ lowest s → (w ≡ 0 → ⊥) → bit_xor ((2 ^ 64 - 1) / 2 ^ (64 - w) * 2 ^ low % 2 ^ 64) s ≡ gap s
gap-some s w low h p q n = rw (ones_shifted w h, run_fits w low (width-within s w low p q n), p, q)

pub returns : goal.returns
returns c = gap-some _ _ _ c.width-w.ensures.upper_bound c.width-w.ensures.value c.lowest.ensures.value c.if-w-eq0.false
