-- `too_large` meets its contract. Assumes nothing.
use Prim.Native.Nat.{ℕ, zero, suc, ◌*◌, ◌^◌, ◌<◌, ◌≤◌}
use native.Mathlib.Nat.{mul-suc}
use native.Mathlib.Omega.{arith}
use lib.Pow.{pow_mono}
use borrow.Author.Tests.{lt-ltb}
use Rattle.lists.proofs.Loops.{zero_one}
use Rattle.build_args.specs.Faults.{table_size}
use Rattle.build_faults.proofs.too_large.Goals as goal

-- 32 pins or more: 2^32 entries or more
wide : (pins w l : ℕ) → 31 < pins → 1 ≤ w → l ≤ 2 ^ 20 → l < 2 ^ pins * w
wide pins zero l h p q = absurd (omega arith)
wide pins (suc w) l h p q = let b = pow_mono {i = 32} {j = pins} h in rw mul-suc (omega arith)

pub returns-then-a-gt31 : goal.returns-then-a-gt31
returns-then-a-gt31 c =
    let d = c.args.d in
    let a = c.args.a in record { value = rw (lt-ltb d.max_image_size (table_size d a) (wide a.num_addr_pins d.word_bytes d.max_image_size c.if-a-gt31.true c.requires.some_bytes c.requires.image_size)); num_addr_pins_bound = λ e. absurd (zero_one cc) }
