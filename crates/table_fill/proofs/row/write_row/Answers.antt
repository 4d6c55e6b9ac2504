-- `write_row` meets its contract. Assumes nothing.
use mathlib.Core.Path.{◌≡◌}
use Prim.Native.Nat.{ℕ, ◌+◌, ◌≤◌, ◌<◌}
use native.Mathlib.Omega.{arith}
use lib.Bits.{bit_and}
use lib.Dec.{eqb}
use lib.ListN.{get_or}
use borrow.Author.Tests.{eqb-true}
use Rattle.lists.proofs.Bools.{both}
use Rattle.table_fill.specs.Design.Entries.{no_source}
use Rattle.table_fill.proofs.Rows.{byte-tables, highest_lt, first_picks_eight}
use Rattle.table_fill.proofs.OneChip.{chip_row_in, chip_wrote, pads_wrote}
use Rattle.table_fill.proofs.row.write_row.Goals.{Start}
use Rattle.table_fill.proofs.row.write_row.Goals as goal

pub bounds-sources-row : goal.bounds-sources-row
bounds-sources-row c = first_picks_eight _ _ _ _ _ _ _ _ _ _ _ c.requires

pub overflow_add-row : goal.overflow_add-row
overflow_add-row c = record { fits = omega (arith, highest_lt _ _ _ _ _ _ _ _ _ _ _ c.requires) }

pub write_words-requires : goal.write_words-requires
write_words-requires c = chip_row_in _ _ _ _ _ _ _ _ _ _ _ c.requires (let h : get_or c.args.picking.now 7 0 ≡ 0 = eqb-true _ _ (both _ _ c.if-one_chip-all_stand.true).0 in h) _ (let h : (n : ℕ) → n ≤ c.args.row.part.address + get_or c.args.tables.moves.now 7 0 → bit_and n c.mask_of-mask.result < (get_or c.args.from.sources c.args.row.part.picks no_source).count = c.all_stand.ensures (both (eqb (get_or c.args.picking.now 7 0) 0) _ c.if-one_chip-all_stand.true).1 in h)

pub scrambled-entry-requires : goal.scrambled-entry-requires
scrambled-entry-requires c = (c.requires.wiring_in.bytes, c.requires.pad_short, byte-tables _ _ _ _ _ c.requires.tables)

pub returns-then-one_chip-all_stand : goal.returns-then-one_chip-all_stand
returns-then-one_chip-all_stand c =
    chip_wrote _ _ _ _ _ _ _ _ _ _ _ c.requires (let h : get_or c.args.picking.now 7 0 ≡ 0 = eqb-true _ _ (both _ _ c.if-one_chip-all_stand.true).0 in h) _ (let h : (n : ℕ) → n ≤ c.args.row.part.address + get_or c.args.tables.moves.now 7 0 → bit_and n c.mask_of-mask.result < (get_or c.args.from.sources c.args.row.part.picks no_source).count = c.all_stand.ensures (both (eqb (get_or c.args.picking.now 7 0) 0) _ c.if-one_chip-all_stand.true).1 in h) _ _ c.mask_of-mask.ensures
    (λ k. omega (arith, c.type_inv.images k)) c.write_words.ensures

pub returns-then-one_chip-none_stand : goal.returns-then-one_chip-none_stand
returns-then-one_chip-none_stand c =
    let (one, none) = both _ _ c.if-one_chip-none_stand.true in
    pads_wrote _ _ _ _ _ _ _ _ _ _ _ c.requires (eqb-true _ _ one) _ _ _ (c.none_stand.ensures none) c.scrambled-entry.ensures c.write_pads.ensures
