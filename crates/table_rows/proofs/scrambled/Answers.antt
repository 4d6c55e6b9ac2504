-- `scrambled` meets its contract: a word of one byte has nothing in its second. Assumes nothing.
use mathlib.Core.Path.{◌≡◌}
use mathlib.Core.List.{List}
use Prim.Native.Nat.{ℕ, ◌*◌, ◌/◌, ◌%◌, ◌^◌, ◌<◌}
use native.Mathlib.Nat.{lt_of_lt_of_le}
use native.Mathlib.Omega.{arith}
use lib.Bits.{or_zero_r}
use lib.ListN.{get_or}
use lib.Pow.{pow_mono}
use Rattle.word_rows.specs.Design.Wrote.{said_by}
use Rattle.table_rows.specs.Design.Rows.{ByteTables}
use Rattle.table_rows.proofs.scrambled.Goals as goal

-- a word of one byte at most
byte-short : (w v : ℕ) → w < 2 → v < 2 ^ (8 * w) → v < 256
byte-short w v h l = lt_of_lt_of_le l (pow_mono {j = 8} (omega arith))

-- the tables say of it what the first one does
low-only : (lows highs : List ℕ) (v : ℕ) → ByteTables lows highs → v < 256 → get_or lows v 0 ≡ said_by lows highs v
low-only lows highs v t l =
    let low : v % 256 ≡ v = omega arith in
    let high : v / 256 ≡ 0 = omega arith in
    rw (low, high, t.none, or_zero_r)

pub returns-then-w-lt2 : goal.returns-then-w-lt2
returns-then-w-lt2 c = low-only _ _ _ c.requires.2 (let h : c.args.word < 256 = byte-short _ _ c.if-w-lt2.true c.requires.1 in h)
