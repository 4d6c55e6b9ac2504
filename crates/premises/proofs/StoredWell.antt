-- The test of the slot that is read back passes just those that read-back may be given. Assumes nothing.
use mathlib.Core.Path.{◌≡◌, refl}
use mathlib.Core.Bool.{Bool, true, false, ◌&&◌, ◌||◌, not}
use Prim.Native.Nat.{ℕ}
use lib.Dec.{leb, eqb}
use lib.ListN.{get_or}
use borrow.Author.Tests.{leb-true, le-leb, eqb-true, eq-eqb}
use Rattle.lists.specs.Each.{each}
use Rattle.lists.proofs.Bools.{both, asked}
use Rattle.lists.proofs.Each.{each_all, each_at}
use Rattle.slot.specs.Description.{is_multi, no_chip}
use Rattle.slot.specs.declared.description.Description.{Description}
use Rattle.addr_layout.specs.declared.layout.AddrLayout.{AddrLayout}
use Rattle.cs_data_layout.specs.declared.layout.CsDataLayout.{CsDataLayout}
use Rattle.build_args.specs.Positions.{data_base}
use Rattle.build_args.specs.Picks.{first_select}
use Rattle.build_args.specs.Faults.{table_size}
use Rattle.stored_slot.specs.Stored as stored
use Rattle.stored_slot.specs.declared.stored.StoredSlot.{StoredSlot}
use Rattle.premises.specs.WellWired.{Mapped, StoredAs}
use Rattle.premises.specs.Same.{same_candidates, is_roms, is_at, same_to}
use Rattle.premises.specs.Given.{algs_known, bases_as, x_pins_as, lists_of, mapped_as, roms_as, select_as, stored_well}
use Rattle.premises.proofs.Truths.{all, asked_if}
use Rattle.premises.proofs.Sames.{candidates_is, candidates_if, roms_is, roms_if, at_is, at_if, to_is, to_if}

module _ (d : Description) (a : AddrLayout) (c : CsDataLayout) (s : StoredSlot) where
  -- a ROM
  mapped_is : (k : ℕ) → mapped_as d a c s k ≡ true → Mapped d a c s k
  unfolding mapped_as
  mapped_is k e =
      let (e, listed) = both _ (lists_of (stored.rom_at s k).data_lines c.data_pin_gpios c.num_data_pins) e in
      let (e, addr) = both _ (lists_of (stored.rom_at s k).addr a.gpios a.num_lines) e in
      let (map, size) = both _ (eqb (stored.rom_at s k).chip_size (get_or d.chips k no_chip).size) e in
      let (lines, line) = both _ (same_to a.num_lines (stored.rom_at s k).addr a.gpios) addr in
      let (data-lines, data-line) = both _ (same_to c.num_data_pins (stored.rom_at s k).data_lines c.data_pin_gpios) listed in
      record {
        map = map;
        size = eqb-true _ _ size;
        lines = eqb-true _ _ lines;
        line = to_is _ _ _ line;
        data-lines = eqb-true _ _ data-lines;
        data-line = to_is _ _ _ data-line;
      }

  mapped_if : (k : ℕ) → Mapped d a c s k → mapped_as d a c s k ≡ true
  unfolding mapped_as
  mapped_if k m =
      let addr = all _ _ (eq-eqb _ _ m.lines) (to_if a.num_lines (stored.rom_at s k).addr a.gpios m.line) in
      let listed = all _ _ (eq-eqb _ _ m.data-lines) (to_if c.num_data_pins (stored.rom_at s k).data_lines c.data_pin_gpios m.data-line) in
      all _ _ (all _ _ (all _ _ m.map (eq-eqb _ _ m.size)) addr) listed

  pub stored_is : stored_well d a c s ≡ true → StoredAs d a c s
  unfolding stored_well
  stored_is e =
      let multi = is_multi d.set_type in
      let (e, overrides) = both _ (leb s.num_overrides 64) e in
      let (e, select) = both _ (not multi || select_as c s) e in
      let (e, roms) = both _ (roms_as d a c s) e in
      let (e, bases) = both _ (bases_as a c s) e in
      let (e, x-pins) = both _ (x_pins_as d s) e in
      let (layout, sizes) = both _ (eqb (stored.word_bytes s) d.word_bytes && eqb s.size (table_size d a)) e in
      let (kind, algs) = both _ (algs_known s) layout in
      let (kind, there) = both (is_roms s.slot_type d.set_type) s.has_layout kind in
      let (algs, dma) = both _ (eqb s.alg_dma.alg 0) algs in
      let (addr, drive) = both (eqb s.alg_addr.alg 0) (leb s.alg_data.alg 1) algs in
      let (bytes, size) = both (eqb (stored.word_bytes s) d.word_bytes) (eqb s.size (table_size d a)) sizes in
      let (x1, x2) = both (same_candidates s.x1 d.board.x1) (same_candidates s.x2 d.board.x2) x-pins in
      let (bases, data-base) = both _ (eqb (stored.stored_data_base s) (data_base c)) bases in
      let (base, pins) = both (eqb (stored.addr_base s) a.gpio_base) (eqb (stored.stored_pins s) a.num_addr_pins) bases in
      let (count, each-rom) = both (eqb s.num_roms d.num_chips) (each d.num_chips (λ k. mapped_as d a c s k)) roms in
      record {
        set_type = roms_is _ _ kind;
        layout = there;
        alg_addr = eqb-true _ _ addr;
        alg_data = leb-true _ _ drive;
        alg_dma = eqb-true _ _ dma;
        word_bytes = eqb-true _ _ bytes;
        size = eqb-true _ _ size;
        x1 = candidates_is _ _ x1;
        x2 = candidates_is _ _ x2;
        addr-base = eqb-true _ _ base;
        pins = eqb-true _ _ pins;
        data-base = eqb-true _ _ data-base;
        roms = eqb-true _ _ count;
        rom = λ k l. mapped_is k (each_at _ d.num_chips each-rom k l);
        alg_cs = λ m. eqb-true _ _ (both (eqb s.alg_cs.alg 0) (is_at (first_select c) (stored.stored_select s)) (asked multi (select_as c s) select m)).0;
        select = λ m. at_is _ _ (both (eqb s.alg_cs.alg 0) (is_at (first_select c) (stored.stored_select s)) (asked multi (select_as c s) select m)).1;
        overrides = leb-true _ _ overrides;
      }

  pub stored_if : StoredAs d a c s → stored_well d a c s ≡ true
  unfolding stored_well
  stored_if g =
      let multi = is_multi d.set_type in
      let algs = all _ _ (all _ _ (eq-eqb _ _ g.alg_addr) (le-leb _ _ g.alg_data)) (eq-eqb _ _ g.alg_dma) in
      let layout = all _ _ (all _ _ (roms_if s.slot_type d.set_type g.set_type) g.layout) algs in
      let sizes = all _ _ (eq-eqb _ _ g.word_bytes) (eq-eqb _ _ g.size) in
      let x-pins = all _ _ (candidates_if s.x1 d.board.x1 g.x1) (candidates_if s.x2 d.board.x2 g.x2) in
      let bases = all _ _ (all _ _ (eq-eqb _ _ g.addr-base) (eq-eqb _ _ g.pins)) (eq-eqb _ _ g.data-base) in
      let roms = all _ _ (eq-eqb _ _ g.roms) (each_all (λ k. mapped_as d a c s k) d.num_chips (λ k l. mapped_if k (g.rom k l))) in
      let select = asked_if multi (select_as c s) (λ m. all _ _ (eq-eqb _ _ (g.alg_cs m)) (at_if (first_select c) (stored.stored_select s) (g.select m))) in
      all _ _ (all _ _ (all _ _ (all _ _ (all _ _ (all _ _ layout sizes) x-pins) bases) roms) select) (le-leb _ _ g.overrides)
