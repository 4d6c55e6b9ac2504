-- Read-back refuses nothing before the entries, where the build refused nothing and the buffers are long enough. Assumes nothing.
use Rattle.std.specs.Prelude.{Option, None}
use mathlib.Core.Path.{◌≡◌, refl, sym, ◌∙◌, ap, subst}
use mathlib.Core.Bool.{Bool, true, false, cond, not, ◌&&◌, ◌||◌}
use mathlib.Core.List.{List}
use mathlib.Core.Logic.{inl, inr}
use Prim.Native.Nat.{ℕ, ◌-◌, ◌*◌, ◌^◌, ◌≤◌, ◌<◌}
use native.Mathlib.Omega.{arith}
use lib.Dec.{leb, eqb}
use lib.ListN.{length, get_or}
use borrow.Author.Tests.{le-leb, lt-leb, lt-ltb, le-ltb, eq-eqb, leb-true}
use Rattle.gpio.specs.Candidates.{candidates_in}
use Rattle.lists.specs.Each.{each}
use Rattle.lists.proofs.Bools.{and_right}
use Rattle.lists.proofs.Each.{each_all}
use Rattle.lists.proofs.Loops.{zero_one}
use Rattle.gpio.specs.declared.candidates.Candidates.{Candidates}
use Rattle.gpio.specs.declared.candidates.Candidates.TheVariants.{Absent, One, Two}
use Rattle.slot.specs.declared.description.ChipSetType.{ChipSetType}
use Rattle.slot.specs.declared.description.ChipSetType.TheVariants.{Single, Banked, Multi}
use Rattle.slot.specs.declared.description.Description.{Description}
use Rattle.slot.specs.Description.{is_single, is_multi}
use Rattle.refusal.specs.declared.Refusal.{Refusal}
use Rattle.refusal.specs.declared.Refusal.TheVariants.{XPin}
use Rattle.refusal.specs.First.{or_else, fault_if}
use Rattle.listing.specs.Choice.{CandidateOf}
use Rattle.addr_law.specs.Law.{InWindow, SoundLayout}
use Rattle.addr_layout.specs.declared.layout.AddrLayout.{AddrLayout}
use Rattle.cs_data_layout.specs.declared.layout.CsDataLayout.{CsDataLayout}
use Rattle.build_args.specs.Positions.{data_base}
use Rattle.build_args.specs.Faults.{table_size}
use Rattle.picks.specs.Picks.{chips_fit}
use Rattle.refusal.proofs.Firsts.{none_of}
use Rattle.stored_slot.specs.Stored as stored
use Rattle.stored_slot.specs.Faults.{layout_fault, rom_fault, x_fault, x_faults, select_fault, pick_fault, room_fault, roms_fault}
use Rattle.stored_slot.specs.Words.{all_words}
use Rattle.stored_slot.specs.declared.stored.StoredSlot.{StoredSlot}
use Rattle.premises.specs.WellWired.{OneInside, WellWired, Mapped, StoredAs}
use Rattle.round_trip.proofs.Fitted.{ToldApart}
use Rattle.round_trip.proofs.Given.{window_is, is_window}

none_if : (b : Bool) (why : Refusal) → b ≡ false → fault_if b why ≡ None
none_if true why e = cc
none_if false why e = refl

pub both_none : (f h : Option Refusal) → f ≡ None → h ≡ None → or_else f h ≡ None
both_none f h e i = rw (e, i)

-- the numbers that the build's tests bound
pub record Small (d : Description) (a : AddrLayout) (c : CsDataLayout) : Type 0 where
  pub base : a.gpio_base ≤ 47
  pub data-base : data_base c ≤ 94
  pub bytes : d.word_bytes ≤ 2
  pub pins : a.num_addr_pins < 32

module _ (d : Description) (a : AddrLayout) (c : CsDataLayout) (s : StoredSlot) (g : StoredAs d a c s) (small : Small d a c) where
  layout-none : (table : List ℕ) → length table ≡ table_size d a → layout_fault s table ≡ None
  unfolding layout_fault
  layout-none table e =
      let same : length table ≡ 2 ^ stored.stored_pins s * stored.word_bytes s = e ∙ sym (rw (g.pins, g.word_bytes)) in
      rw (
        g.layout,
        eq-eqb s.alg_addr.alg 0 g.alg_addr,
        le-ltb 255 (stored.addr_base s) (omega (arith, g.addr-base, small.base)),
        le-ltb 1 s.alg_data.alg g.alg_data,
        le-ltb 255 (stored.stored_data_base s) (omega (arith, g.data-base, small.data-base)),
        eq-eqb s.alg_dma.alg 0 g.alg_dma,
        le-ltb 1 s.alg_dma.bit_mode (omega (arith, g.word_bytes, small.bytes)),
        lt-leb 32 (stored.stored_pins s) (omega (arith, g.pins, small.pins)),
        eq-eqb (length table) _ same,
      )

  -- each ROM's map lies in the windows
  module _ (ca : ℕ) (sound : SoundLayout d ca a) (told : ToldApart d a c)
      (above : (n : ℕ) → n < c.num_data_pins → data_base c ≤ get_or c.data_pin_gpios n 0) (k : ℕ) (l : k < d.num_chips) where
    abbrev rom : Mapped d a c s k
    rom = g.rom k l

    lines-inside : each (stored.addr_lines (stored.rom_at s k)) (λ n. stored.in_window s (get_or (stored.rom_at s k).addr n 0)) ≡ true
    lines-inside = each_all _ _ (λ n m.
        let used : n < a.num_lines = omega (arith, rom.lines, m) in
        is_window d a c s g _ (subst (InWindow a) (sym (rom.line n used)) (sound.line-window n used)))

    data-inside : each (stored.data_lines (stored.rom_at s k)) (λ n. stored.within (stored.stored_data_base s) (8 * stored.word_bytes s) (get_or (stored.rom_at s k).data_lines n 0)) ≡ true
    data-inside = each_all _ _ (λ n m.
        let used : n < c.num_data_pins = omega (arith, rom.data-lines, m) in
        rw (rom.data-line n used, g.data-base, g.word_bytes, le-leb _ _ (above n used), lt-ltb _ _ (told.data_in n used)))

    rom-none : rom_fault s k ≡ None
    unfolding rom_fault
    rom-none =
        let all : stored.data_lines (stored.rom_at s k) ≡ 8 * stored.word_bytes s = rom.data-lines ∙ told.data-lines ∙ sym (rw g.word_bytes) in
        rw (rom.map, lines-inside, data-inside, eq-eqb (stored.data_lines (stored.rom_at s k)) _ all)

  -- a needed X pin has one GPIO in the window
  differ : (h i : ℕ) → candidates_in (Two h i) ≡ true → h ≡ i → ⊥
  differ h i e q =
      let n = and_right (leb h 47 && leb i 47) (not (eqb h i)) e in
      let z : ◌≡◌ {A = Bool} false true = ap not (sym (eq-eqb h i q)) ∙ n in
      zero_one cc

  outside : (h : ℕ) → stored.in_window s h ≡ false → InWindow a h → ⊥
  outside h e w =
      let z : ◌≡◌ {A = Bool} true false = sym (is_window d a c s g h w) ∙ e in
      zero_one cc

  neither : (h i p : ℕ) → stored.in_window s h ≡ false → stored.in_window s i ≡ false → CandidateOf (Two h i) p → InWindow a p → ⊥
  neither h i p e f (inl q) w = outside h e (subst (InWindow a) q w)
  neither h i p e f (inr q) w = outside i f (subst (InWindow a) q w)

  one_of_two : (h i : ℕ) (t u : Bool) → stored.in_window s h ≡ t → stored.in_window s i ≡ u → (h ≡ i → ⊥) → OneInside a (Two h i) → (t && not u) || (u && not t) ≡ true
  one_of_two h i true true e f n o = absurd (n (o.only h (inl refl) (window_is d a c s g h e) ∙ sym (o.only i (inr refl) (window_is d a c s g i f))))
  one_of_two h i true false e f n o = refl
  one_of_two h i false true e f n o = refl
  one_of_two h i false false e f n o = absurd (neither h i o.gpio e f o.candidate o.inside)

  one_inside : (x : Candidates) → candidates_in x ≡ true → OneInside a x → stored.one_inside s x ≡ true
  one_inside Absent e o = absurd o.candidate
  one_inside (One h) e o = is_window d a c s g h (subst (InWindow a) o.candidate o.inside)
  one_inside (Two h i) e o = one_of_two h i (stored.in_window s h) (stored.in_window s i) refl refl (differ h i e) o

  module _ (ca : ℕ) (sound : SoundLayout d ca a) (wired : WellWired d a) (in1 : candidates_in d.board.x1 ≡ true) (in2 : candidates_in d.board.x2 ≡ true) where
    x_none : (n : ℕ) (x y : Candidates) → y ≡ x → candidates_in x ≡ true → OneInside a x → x_fault s n y ≡ None
    x_none n x y e i o =
        ap (λ (v : Candidates). x_fault s n v) e ∙ none_if (not (stored.one_inside s x)) (XPin n) (ap not (one_inside x i o))

    x1-none : is_single d.set_type ≡ false → x_fault s 1 s.x1 ≡ None
    x1-none m = x_none 1 d.board.x1 s.x1 g.x1 in1 (wired.x1-inside m)

    x2-none : is_single d.set_type ≡ false → (t : Bool) → leb 3 s.num_roms ≡ t → cond t (x_fault s 2 s.x2) None ≡ None
    x2-none m false e = refl
    x2-none m true e = x_none 2 d.board.x2 s.x2 g.x2 in2 (wired.x2-inside m (omega (arith, g.roms, leb-true 3 s.num_roms e)))

    xs_none : is_single d.set_type ≡ false → x_faults s ≡ None
    xs_none m = both_none _ _ (x1-none m) (x2-none m (leb 3 s.num_roms) refl)

    -- in Multi the select is in the window
    select-none : is_multi d.set_type ≡ true → InWindow a (stored.stored_select s) → select_fault s ≡ None
    select-none m w =
        rw (
          eq-eqb s.alg_cs.alg 0 (g.alg_cs m),
          le-ltb 255 (stored.stored_select s) (omega (arith, w.1, small.base, small.pins)),
          is_window d a c s g (stored.stored_select s) w,
        )

    pick-none : (t : ChipSetType) → d.set_type ≡ t → (is_multi d.set_type ≡ true → InWindow a (stored.stored_select s)) → pick_fault s t ≡ None
    pick-none Single e w = refl
    pick-none Banked e w = xs_none (ap is_single e)
    pick-none Multi e w = both_none _ _ (xs_none (ap is_single e)) (select-none (ap is_multi e) (w (ap is_multi e)))

    room-none : (output marks : ℕ) → all_words s * stored.word_bytes s ≤ output → all_words s ≤ marks → room_fault s output marks ≡ None
    room-none output marks o m = rw (le-ltb output (all_words s * stored.word_bytes s) o, le-ltb marks (all_words s) m)

    -- no refusal before the entries
    pub none-refused : (table : List ℕ) (output marks : ℕ) → length table ≡ table_size d a → ToldApart d a c
        → ((n : ℕ) → n < c.num_data_pins → data_base c ≤ get_or c.data_pin_gpios n 0)
        → chips_fit d.set_type d.num_chips ≡ true → (is_multi d.set_type ≡ true → InWindow a (stored.stored_select s))
        → all_words s * stored.word_bytes s ≤ output → all_words s ≤ marks → roms_fault s d.set_type table output marks ≡ None
    unfolding roms_fault
    none-refused table output marks e told above fit w o m =
        both_none _ _ (layout-none table e)
        (both_none _ _ (none_of s.num_roms (rom_fault s) (λ k l. rom-none ca sound told above k (omega (arith, g.roms, l))))
        (both_none _ _ (none_if _ _ (ap not (ap (chips_fit d.set_type) g.roms ∙ fit)))
        (both_none _ _ (pick-none d.set_type refl w)
        (room-none output marks o m))))
