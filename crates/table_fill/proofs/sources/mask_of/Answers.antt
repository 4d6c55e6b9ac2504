-- `mask_of` meets its contract. Assumes nothing.
use mathlib.Core.Path.{◌≡◌}
use Prim.Native.Nat.{◌^◌}
use lib.Count.{count_trailing_zeros}
use Rattle.table_fill.proofs.Reading.{neither, one_bit, reads_low}
use Rattle.table_fill.proofs.sources.mask_of.Goals.{After-struct_known-4-1}
use Rattle.table_fill.proofs.sources.mask_of.Goals as goal

-- past both tests the count is a power of two
power : (c : After-struct_known-4-1) → c.args.s.count ≡ 2 ^ count_trailing_zeros 32 c.args.s.count
power c = one_bit _ _ (neither c.args.s.mirrored (count_trailing_zeros 32 c.args.s.count) c.if-s-bits.false).1 c.if-s-bits-2.false

pub returns : goal.returns
returns c =
    reads_low c.args.s (count_trailing_zeros 32 c.args.s.count)
    (neither c.args.s.mirrored (count_trailing_zeros 32 c.args.s.count) c.if-s-bits.false).0 (power c)
