-- `fill_by` meets its contract. The loop's invariant: what the row's first index says, and the entries before it. Assumes nothing.
use mathlib.Core.Path.{refl, sym}
use Prim.Native.Nat.{◌*◌, ◌<◌}
use native.Mathlib.Omega.{arith}
use Rattle.bits.proofs.Gathered.{gather-zero}
use Rattle.table_fill.proofs.Filled.{part_is, rows_room, rows_none}
use Rattle.table_fill.proofs.table.fill_by.Goals as goal

pub loop-k-init : goal.loop-k-init
loop-k-init c = (refl, sym (gather-zero _ _), sym (gather-zero _ _), rows_none _ _ _ _ _ _ _)

pub write_row-requires : goal.write_row-requires
write_row-requires c =
    let p = c.requires in
    let v = c.loop-k in
    let count = c.min.ensures in
    let some : 256 * v.k < c.args.entries = omega (arith, c.loop-k-test.true, c.div_ceil-k-end.ensures) in
    record {
      wiring_in = p.wiring_in;
      bytes_are = refl;
      sources_in = p.sources_in;
      pad_short = p.pad_short;
      tables = record { moves_are = c.moves-moved.ensures; picking_are = c.moves-picking.ensures; lows_are = c.scrambles-lows.ensures; highs_are = c.scrambles-highs.ensures };
      says = part_is c.args.w _ _ _ v.invariant.1 v.invariant.2;
      begins = omega arith;
      short = omega (arith, count);
      few = omega (arith, count, some, p.few);
      room = rw v.invariant.0 (rows_room c.args.w.word_bytes _ _ _ _ some count p.room);
    }
