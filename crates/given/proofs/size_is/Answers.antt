-- `size_is` meets its contract. Assumes nothing.
use mathlib.Core.Path.{◌≡◌, sym}
use Prim.Native.Nat.{ℕ, ◌*◌, ◌^◌, ◌≤◌, ◌<◌}
use native.Mathlib.Nat.{mul-le-mul}
use native.Mathlib.Omega.{arith}
use lib.Pow.{pow_mono}
use borrow.Author.Tests.{ne_eqb}
use Rattle.given.proofs.size_is.Goals as goal

-- 32 pins and more have more entries than a size can say
large : (size p w : ℕ) → size < 2 ^ 32 → 32 ≤ p → 1 ≤ w → size ≡ 2 ^ p * w → ⊥
large size p w s l h e = omega (arith, mul-le-mul (pow_mono {i = 32} {j = p} l) h, s, e)

pub returns-then-a-gt31 : goal.returns-then-a-gt31
returns-then-a-gt31 c =
    let s = c.args in
    let w = s.d.word_bytes in
    let some : 1 ≤ w = omega (arith, c.if-d-eq0.false) in
    sym (ne_eqb s.size _ (large s.size s.a.num_addr_pins w (omega arith) (omega (arith, c.if-a-gt31.true)) some))
