-- What `stored_of` says of found layouts is what read-back is to be given. Assumes nothing.
use Rattle.std.specs.Prelude.{Some, Ok}
use mathlib.Core.Path.{◌≡◌, refl, sym, ◌∙◌, ap}
use mathlib.Core.Bool.{Bool, true, false, cond, not, ◌&&◌}
use mathlib.Core.List.{List}
use Prim.Native.Nat.{ℕ, zero, suc, ◌≤◌, ◌<◌}
use native.Mathlib.Omega.{arith}
use lib.Dec.{ltb, eqb}
use lib.ListN.{length, get_or}
use borrow.Author.Tests.{eq-eqb, ne_eqb, eqb-true, ltb-true, ltb-false, lt-ltb, le-ltb}
use Rattle.lists.proofs.Tab.{get_or-tab}
use Rattle.slot.specs.Description.{is_multi}
use Rattle.slot.specs.declared.description.Description.{Description}
use Rattle.domain.proofs.Bounds.{description_in_lem}
use Rattle.addr_layout.specs.declared.layout.AddrLayout.{AddrLayout}
use Rattle.cs_data_law.specs.Law.{FoundBest}
use Rattle.cs_data_law.specs.Sound as cs
use Rattle.cs_data_layout.proofs.Bounds.{line_in}
use Rattle.cs_data_layout.specs.declared.layout.CsDataLayout.{CsDataLayout}
use Rattle.words.specs.declared.ByteOrder.{ByteOrder}
use Rattle.build_args.specs.Args.{args_of}
use Rattle.build_args.specs.declared.BuildArgs.{BuildArgs}
use Rattle.round_trip.specs.Design.Readable.{Readable}
use Rattle.build_args.specs.Picks.{first_select}
use Rattle.build_args.specs.Faults.{table_size}
use Rattle.build_args.specs.declared.images.ImageSpan.{ImageSpan}
use Rattle.build_args.proofs.Facts.{described, addressed, selected, lines-few, data-count}
use Rattle.rom_image.specs.Build.{build_of}
use Rattle.rom_image.proofs.Past.{table-small, table_fits, pins-few}
use Rattle.stored_slot.specs.Stored as stored
use Rattle.stored_slot.specs.declared.stored.Rom.{Rom}
use Rattle.stored_slot.specs.declared.stored.StoredSlot.{StoredSlot}
use Rattle.premises.specs.WellWired.{Mapped, StoredAs, Unforced}
use Rattle.round_trip.specs.RoundTrip.{Accepted}
use Rattle.round_trip.specs.Stored.{map_list, stored_rom, gpio_or0, stored_of}
use Rattle.round_trip.proofs.Laid.{cs_found}
use Rattle.round_trip.proofs.RoundTrip.{Past, build-past}

-- a list that ends at n has n entries
module _ (l : List ℕ) (n : ℕ) (before : (k : ℕ) → k < n → get_or l k 255 ≡ 255 → ⊥) (end : get_or l n 255 ≡ 255) where
  not_ended : (m : ℕ) → m ≤ n → stored.map_lines m l ≡ m
  unfolding stored.map_lines
  not_ended zero h = refl
  not_ended (suc m) h = rw (not_ended m (omega arith), eq-eqb m m refl, ne_eqb (get_or l m 255) 255 (before m (omega arith)))

  at-end : (m : ℕ) (t : Bool) → eqb n m ≡ t → cond (t && not (eqb (get_or l m 255) 255)) (suc m) n ≡ n
  at-end m false e = refl
  at-end m true e =
      let same : get_or l m 255 ≡ 255 = ap (λ (k : ℕ). get_or l k 255) (sym (eqb-true n m e)) ∙ end in
      rw (eq-eqb (get_or l m 255) 255 same)

  one_more : (m : ℕ) → (n ≤ m → stored.map_lines m l ≡ n) → (t : Bool) → ltb n (suc m) ≡ t → n ≤ suc m → stored.map_lines (suc m) l ≡ n
  unfolding stored.map_lines
  one_more m before-it false e h =
      let same : suc m ≡ n = omega (arith, ltb-false n (suc m) e, h) in
      not_ended (suc m) (omega arith) ∙ same
  one_more m before-it true e h = rw (before-it (omega (arith, ltb-true n (suc m) e))) (at-end m (eqb n m) refl)

  ended : (m : ℕ) → n ≤ m → stored.map_lines m l ≡ n
  ended zero h = not_ended zero (omega arith) ∙ omega arith
  ended (suc m) h = one_more m (ended m) (ltb n (suc m)) refl h

-- a map lists its GPIOs and no more
module _ (gpios : List ℕ) (n : ℕ) (few : n < 32) where
  map_at : (k z : ℕ) → k < n → get_or (map_list gpios n) k z ≡ get_or gpios k 0
  map_at k z l = get_or-tab (λ j. cond (ltb j n) (get_or gpios j 0) 255) 32 k z (omega arith) ∙ rw (lt-ltb k n l)

  map-end : get_or (map_list gpios n) n 255 ≡ 255
  map-end = get_or-tab (λ j. cond (ltb j n) (get_or gpios j 0) 255) 32 n 255 few ∙ rw (le-ltb n n (omega arith))

  map-listed : ((k : ℕ) → k < n → get_or gpios k 0 ≤ 47) → stored.map_lines 32 (map_list gpios n) ≡ n
  map-listed inside =
      ended (map_list gpios n) n (λ k l e. omega (arith, inside k l, sym (map_at k 255 l) ∙ e)) map-end 32 (omega arith)

-- what `stored_of` needs of the description and the layouts
pub record Storable (d : Description) (a : AddrLayout) (c : CsDataLayout) : Type 0 where
  pub bytes : 1 ≤ d.word_bytes
  pub chips : d.num_chips ≤ 4
  pub lines : a.num_lines < 32
  pub line-gpio : (k : ℕ) → k < a.num_lines → get_or a.gpios k 0 ≤ 47
  pub data-lines : c.num_data_pins < 32
  pub data-gpio : (k : ℕ) → k < c.num_data_pins → get_or c.data_pin_gpios k 0 ≤ 47
  pub select : 0 < c.num_select_lines

module _ (d : Description) (a : AddrLayout) (c : CsDataLayout) (can : Storable d a c) where
  abbrev s : StoredSlot
  s = stored_of d a c

  module _ (k : ℕ) (l : k < d.num_chips) where
    rom_is : stored.rom_at s k ≡ stored_rom d a c k
    unfolding stored_of
    rom_is = get_or-tab (stored_rom d a c) 4 k stored.no_rom (omega (arith, can.chips, l))

    mapped : Mapped d a c s k
    mapped = record {
      map = ap (λ (r : Rom). r.has_map) rom_is;
      size = ap (λ (r : Rom). r.chip_size) rom_is;
      lines = ap (λ (r : Rom). stored.addr_lines r) rom_is ∙ map-listed a.gpios a.num_lines can.lines can.line-gpio;
      line = λ n m. ap (λ (r : Rom). get_or r.addr n 0) rom_is ∙ map_at a.gpios a.num_lines can.lines n 0 m;
      data-lines = ap (λ (r : Rom). stored.data_lines r) rom_is
          ∙ map-listed c.data_pin_gpios c.num_data_pins can.data-lines can.data-gpio;
      data-line = λ n m. ap (λ (r : Rom). get_or r.data_lines n 0) rom_is
          ∙ map_at c.data_pin_gpios c.num_data_pins can.data-lines n 0 m;
    }

  first-at : first_select c ≡ Some (cs.select_gpio c 0)
  first-at = rw (ne_eqb c.num_select_lines 0 (λ e. omega (arith, can.select, e)))

  select_is : first_select c ≡ Some (stored.stored_select s)
  unfolding stored_of
  select_is =
      let same : stored.stored_select s ≡ cs.select_gpio c 0 = omega (arith, ap gpio_or0 first-at) in
      first-at ∙ ap Some (sym same)

  word_bytes_is : stored.word_bytes s ≡ d.word_bytes
  unfolding stored_of
  word_bytes_is = omega (arith, can.bytes)

  pub stored_as_storable : StoredAs d a c s
  unfolding stored_of
  stored_as_storable = record {
    set_type = refl;
    layout = refl;
    alg_addr = refl;
    alg_data = omega arith;
    alg_dma = refl;
    word_bytes = word_bytes_is;
    size = refl;
    x1 = refl;
    x2 = refl;
    addr-base = omega arith;
    pins = refl;
    data-base = refl;
    roms = refl;
    rom = mapped;
    alg_cs = λ m. refl;
    select = λ m. select_is;
    overrides = omega arith;
  }

pub unforced-stored : (d : Description) (a : AddrLayout) (c : CsDataLayout) → Unforced a (stored_of d a c)
unfolding stored_of stored.names
unforced-stored d a c g w = (refl, refl)

module _ (order : ByteOrder) (d : Description) (a : AddrLayout) (c : CsDataLayout) (images : List ℕ) (spans : List ImageSpan) (lent : List ℕ)
    (ok : Accepted order (args_of d a c spans) images lent) where
  past : Past order d a c images spans lent
  past = build-past order d a c images spans lent ok.build

  selects : (n : ℕ) × FoundBest d (Some a) n c
  selects = cs_found d (Some a) c ok.select

  storable : Storable d a c
  storable = record {
    bytes = (description_in_lem d (described (args_of d a c spans) past.tests.domain)).word_bytes.0;
    chips = (description_in_lem d (described (args_of d a c spans) past.tests.domain)).chip-count.1;
    lines = omega (arith, lines-few (args_of d a c spans) past.tests.domain);
    line-gpio = λ k l. line_in a (addressed (args_of d a c spans) past.tests.domain) k (omega (arith, l));
    data-lines = omega (arith, (data-count c (selected (args_of d a c spans) past.tests.domain)).1);
    data-gpio = selects.1.sound.data_in;
    select = selects.1.sound.some-select;
  }

  pub stored_as : StoredAs d a c (stored_of d a c)
  stored_as = stored_as_storable d a c storable

-- what `stored_slot` and a read of the table ask of their caller, once the build accepts
pub callable : (order : ByteOrder) (b : BuildArgs) (images lent : List ℕ) → (build_of order b images lent).answer ≡ Ok tt
    → Readable b × (table_size b.description b.addr ≤ length lent)
callable order b images lent e =
    let past = build-past order b.description b.addr b.cs_data images b.spans lent e in
    let w = (description_in_lem b.description (described b past.tests.domain)).word_bytes in (
      record {
        pins = pins-few b.description b.addr b.cs_data images b.spans _ past.tests;
        some_bytes = w.0;
        bytes = w.1;
        small = table-small b.description b.addr b.cs_data images b.spans _ past.tests;
      },
      table_fits b.description b.addr b.cs_data images b.spans (length lent) past.tests,
    )
