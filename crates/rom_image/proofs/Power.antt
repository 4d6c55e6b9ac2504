-- A number with one bit is a power of two. Assumes nothing.
use mathlib.Core.Path.{◌≡◌, refl, ◌∙◌, ap}
use Prim.Native.Nat.{ℕ, zero, suc, ◌+◌, ◌*◌, ◌/◌, ◌%◌, ◌^◌, ◌<◌}
use native.Mathlib.Nat.{pow-suc}
use native.Mathlib.Omega.{arith}
use lib.Count.{ones, ones_step, ones_cat}
use lib.Pow.{pow_mono}
use borrow.Author.Tests.{eqb-true, eq-eqb}
use Rattle.rom_image.specs.Law.{PowerLaw}

power_one : (k : ℕ) → ones (2 ^ k) ≡ 1
unfolding ones
power_one k =
    let e : 2 ^ k ≡ 1 * 2 ^ k + 0 = omega arith in
    ap ones e ∙ ones_cat k 1 0 (pow_mono {i = 0} {j = k} (omega arith))

none : (m n : ℕ) → n < 2 ^ m → ones n ≡ 0 → n ≡ 0
none zero n l e = omega arith
none (suc m) n l e =
    let h = rw pow-suc at l in
    let s = rw (ones_step n) at e in
    let half = none m (n / 2) (omega arith) (omega arith) in
    omega arith

one_power : (m n : ℕ) → n < 2 ^ m → ones n ≡ 1 → (k : ℕ) × (n ≡ 2 ^ k)
unfolding ones
one_power zero n l e = let z : n ≡ 0 = omega arith in absurd (let q = rw z at e in omega arith)
one_power (suc m) n l e =
    let h = rw pow-suc at l in
    let s = rw (ones_step n) at e in
    by (n % 2) refl (λ q. one_power m (n / 2) (omega arith) (omega arith)) (λ q. none m (n / 2) (omega arith) (omega arith))
  where
    by : (d : ℕ) → n % 2 ≡ d → (n % 2 ≡ 0 → (k : ℕ) × (n / 2 ≡ 2 ^ k)) → (n % 2 ≡ 1 → n / 2 ≡ 0) → (k : ℕ) × (n ≡ 2 ^ k)
    by zero q even odd = let (k, p) = even q in (suc k, rw pow-suc (omega arith))
    by (suc d) q even odd = let half = odd (omega arith) in (0, omega arith)

below_power : (n : ℕ) → n < 2 ^ n
below_power zero = omega arith
below_power (suc n) = rw pow-suc (let l = below_power n in omega arith)

pub power_law : (n : ℕ) → PowerLaw n
power_law n = record {
  is_power = λ e. one_power n n (below_power n) (eqb-true (ones n) 1 e);
  power_is = λ k e. eq-eqb (ones n) 1 (ap ones e ∙ power_one k);
}
