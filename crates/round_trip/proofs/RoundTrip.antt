-- Demand 3 over the definitions: what both searches and the build accept of a well wired slot reads back. Assumes nothing.
use Rattle.std.specs.Prelude.{Option, Some, Result, Ok, Err, None}
use mathlib.Core.Path.{◌≡◌, refl, sym, ◌∙◌, ap, subst}
use mathlib.Core.Bool.{Bool, true, false, cond}
use mathlib.Core.List.{List, ◌++◌}
use Prim.Native.Nat.{ℕ, zero, suc, ◌+◌, ◌-◌, ◌*◌, ◌/◌, ◌^◌, ◌≤◌, ◌<◌}
use native.Mathlib.Nat.{div-mul-le_self, mul-le-mul_right, le_trans}
use native.Mathlib.Omega.{arith}
use lib.Dec.{leb}
use lib.ListN.{length, take, drop, replicate, get_or}
use lib.Seq.{take_at}
use borrow.Author.Tests.{le-leb, eq-eqb}
use Rattle.gpio.specs.Candidates.{candidates_in}
use Rattle.lists.specs.Each.{each}
use Rattle.lists.specs.Tab.{joined}
use Rattle.lists.proofs.Tab.{joined_cong}
use Rattle.lists.proofs.Each.{each_all}
use Rattle.lists.proofs.Loops.{zero_one}
use Rattle.gpio.proofs.Fits.{fits-within}
use Rattle.words.specs.Words.{chip_word, chip_words_bytes}
use Rattle.words.specs.declared.ByteOrder.{ByteOrder}
use Rattle.words.proofs.Words.{words-length}
use Rattle.words.proofs.Chip.{part_lt}
use Rattle.slot.specs.Description.{is_multi, no_chip}
use Rattle.slot.specs.declared.description.Description.{Description}
use Rattle.refusal.specs.declared.Refusal.{Refusal}
use Rattle.refusal.specs.declared.Refusal.TheVariants.{OutOfDomain}
use Rattle.domain.specs.Domain.{description_in}
use Rattle.domain.proofs.Bounds.{description_in_lem}
use Rattle.refusal.specs.First.{or_else}
use Rattle.addr_law.specs.Law as addr
use Rattle.cs_data_law.specs.Law as cs
use Rattle.addr_layout.specs.declared.layout.AddrLayout.{AddrLayout}
use Rattle.cs_data_layout.specs.declared.layout.CsDataLayout.{CsDataLayout}
use Rattle.build_args.specs.Args.{args_of}
use Rattle.build_args.specs.Images.{chip_span, chip_bytes}
use Rattle.build_args.specs.Domain.{build_in}
use Rattle.build_args.specs.Faults.{entries_of, table_size, build_fault}
use Rattle.build_args.specs.declared.images.ImageSpan.{ImageSpan}
use Rattle.rom_image.specs.Entry.{entry_at, table_of}
use Rattle.rom_image.specs.Build.{pad_byte, Built, built, build_after, build_of}
use Rattle.stored_slot.specs.Stored as stored
use Rattle.stored_slot.specs.Faults.{wrong_size, roms_fault}
use Rattle.stored_slot.specs.Words as sizes
use Rattle.unscramble.specs.Words as read
use Rattle.unscramble.specs.Recovered as recover
use Rattle.unscramble.specs.Recovered.{read_back, front, inconsistent, unserved, recovered, unscrambled}
use Rattle.stored_slot.specs.declared.stored.StoredSlot.{StoredSlot}
use Rattle.premises.specs.WellWired.{WellWired, StoredAs, Unforced}
use Rattle.round_trip.proofs.Fitted.{Fitted, ToldApart}
use Rattle.premises.specs.Room.{chip_words, words_to, words, Room}
use Rattle.round_trip.specs.RoundTrip.{Accepted, table_built, first_bytes, returned_whole, RoundTrip}
use Rattle.build_args.proofs.Facts.{described, selected, data-base}
use Rattle.rom_image.proofs.Buildable.{Buildable}
use Rattle.rom_image.specs.Design.Past.{PastTests}
use Rattle.rom_image.proofs.Past.{buildable, pins-few}
use Rattle.round_trip.proofs.Laid.{addr-found, cs_found}
use Rattle.round_trip.proofs.Told.{told-apart, select-at}
use Rattle.round_trip.proofs.Given.{fitted}
use Rattle.round_trip.proofs.Accepted.{both_none, Small, none-refused}
use Rattle.round_trip.proofs.Bytes.{words_take}
use Rattle.round_trip.proofs.Read.{consistent, all_served, recovered-words}

-- a build that accepts is past its tests
refused_not_built : (why : Refusal) → ◌≡◌ {A = Result (Unit {0}) Refusal} (Err why) (Ok tt) → ⊥
refused_not_built why e = zero_one cc

module _ (order : ByteOrder) (d : Description) (a : AddrLayout) (c : CsDataLayout) (images : List ℕ) (spans : List ImageSpan) (lent : List ℕ) where
  pub record Past : Type 0 where
    pub tests : PastTests (args_of d a c spans) images (length lent)
    pub table : (build_of order (args_of d a c spans) images lent).table ≡ table_of pad_byte order (args_of d a c spans) images ++ drop (table_size d a) lent

  by_fault : (f : Option Refusal) → build_fault (args_of d a c spans) images (length lent) ≡ f → build_in (args_of d a c spans) ≡ true
      → build_of order (args_of d a c spans) images lent ≡ build_after order (args_of d a c spans) images lent f → (build_after order (args_of d a c spans) images lent f).answer ≡ Ok tt → Past
  by_fault (Some why) q i w e = absurd (refused_not_built why e)
  by_fault None q i w e = record { tests = record { domain = i; no_fault = q }; table = ap (λ (b : Built). b.table) w }

  by_domain : (t : Bool) → build_in (args_of d a c spans) ≡ t
      → build_of order (args_of d a c spans) images lent
      ≡ cond t (build_after order (args_of d a c spans) images lent (build_fault (args_of d a c spans) images (length lent))) (built (Err OutOfDomain) lent)
      → (build_of order (args_of d a c spans) images lent).answer ≡ Ok tt → Past
  by_domain false q w e = absurd (refused_not_built _ (sym (ap (λ (b : Built). b.answer) w) ∙ e))
  by_domain true q w e = by_fault (build_fault (args_of d a c spans) images (length lent)) refl q w (sym (ap (λ (b : Built). b.answer) w) ∙ e)

  pub build-past : (build_of order (args_of d a c spans) images lent).answer ≡ Ok tt → Past
  unfolding build_of
  build-past e = by_domain (build_in (args_of d a c spans)) refl refl e

-- the slot as it is stored is in read-back's domain
stored_in : (d : Description) (a : AddrLayout) (c : CsDataLayout) (s : StoredSlot) → description_in d ≡ true → StoredAs d a c s → stored.stored_in s ≡ true
unfolding stored.stored_in
stored_in d a c s e g =
    let h = description_in_lem d e in
    let x1 : candidates_in s.x1 ≡ true = ap candidates_in g.x1 ∙ h.board.x1 in
    let x2 : candidates_in s.x2 ≡ true = ap candidates_in g.x2 ∙ h.board.x2 in
    let few : s.num_roms ≤ 4 = omega (arith, g.roms, h.chip-count) in
    let sizes : each s.num_roms (λ k. leb (stored.rom_at s k).chip_size (2 ^ 24)) ≡ true = each_all _ s.num_roms (λ k l.
    let m : k < d.num_chips = omega (arith, g.roms, l) in
    le-leb (stored.rom_at s k).chip_size (2 ^ 24) (omega (arith, (g.rom k m).size, (h.chip k m).size))) in
    rw (le-leb s.num_overrides 64 g.overrides, x1, x2, le-leb s.num_roms 4 few, sizes)

-- as many words are counted as demand 3 says
module _ (d : Description) (a : AddrLayout) (c : CsDataLayout) (s : StoredSlot) (f : Fitted d a c s) where
  words_same : (k : ℕ) → k < d.num_chips → sizes.rom_words s k ≡ chip_words d a k
  words_same k l = rw (f.size k l, f.bytes, f.lines k l)

  before_same : (n : ℕ) → n ≤ d.num_chips → sizes.words_before s n ≡ words_to d a n
  unfolding sizes.words_before words_to
  before_same zero h = refl
  before_same (suc n) h = rw (before_same n (omega arith), words_same n (omega arith))

  all_same : sizes.all_words s ≡ words d a
  all_same = ap (sizes.words_before s) f.chips ∙ before_same d.num_chips (omega arith)

-- a chip's counted words are in its bytes
words-within : (x y w size long : ℕ) → x ≤ size / w → size ≤ long → x * w ≤ long
words-within x y w size long h l = le_trans (mul-le-mul_right w h) (le_trans (div-mul-le_self size w) l)

module _ (order : ByteOrder) (d : Description) (a : AddrLayout) (c : CsDataLayout) (images : List ℕ) (spans : List ImageSpan) (lent : List ℕ) (s : StoredSlot) (output marks : List ℕ)
    (ok : Accepted order (args_of d a c spans) images lent) (bytes : (k : ℕ) → get_or images k 0 < 256) (wired : WellWired d a) (given : StoredAs d a c s)
    (unforced : Unforced a s) (room : Room d a output marks) where
  past : Past order d a c images spans lent
  past = build-past order d a c images spans lent ok.build

  in_description : description_in d ≡ true
  in_description = described (args_of d a c spans) past.tests.domain

  can : Buildable d a c images spans
  can = buildable d a c images spans (length lent) past.tests

  -- the found layouts
  laid : (c : ℕ) × addr.FoundBest d c a
  laid = addr-found d a ok.address

  selected-at : (n : ℕ) × cs.FoundBest d (Some a) n c
  selected-at = cs_found d (Some a) c ok.select

  told : ToldApart d a c
  told = told-apart d a laid.0 selected-at.0 laid.1 c selected-at.1.sound wired

  same_lines : Fitted d a c s
  same_lines = fitted d a c s given laid.0 laid.1.sound wired unforced

  chip-byte : (rom k : ℕ) → get_or (chip_bytes images (chip_span spans rom)) k 0 < 256
  unfolding chip_bytes
  chip-byte rom k = part_lt images (chip_span spans rom).start (chip_span spans rom).length bytes k

  -- the table that is read
  table-long : length (table_of pad_byte order (args_of d a c spans) images) ≡ table_size d a
  unfolding table_of
  table-long = words-length d.word_bytes (entry_at pad_byte order (args_of d a c spans) images) (entries_of a)

  table_is : table_built order (args_of d a c spans) images lent ≡ table_of pad_byte order (args_of d a c spans) images
  table_is = ap (take (table_size d a)) past.table ∙ take_at (table_of pad_byte order (args_of d a c spans) images) (drop (table_size d a) lent) (table_size d a) table-long

  -- what comes back of a chip
  chip-back : (k : ℕ) → k < d.num_chips
      → chip_words_bytes order d.word_bytes (λ n. chip_word order d.word_bytes (chip_bytes images (chip_span spans k)) n) (sizes.rom_words s k) ≡ first_bytes (args_of d a c spans) images k
  chip-back k l =
      ap (λ (n : ℕ). chip_words_bytes order d.word_bytes (chip_word order d.word_bytes (chip_bytes images (chip_span spans k))) n) (words_same d a c s same_lines k l)
      ∙ words_take order d.word_bytes (chip_bytes images (chip_span spans k)) (chip_words d a k) (chip-byte k)
      (words-within (chip_words d a k) 0 d.word_bytes (get_or d.chips k no_chip).size _ (omega arith) (can.lent k l))

  all_back : recovered order s d.set_type (table_of pad_byte order (args_of d a c spans) images) ≡ joined d.num_chips (first_bytes (args_of d a c spans) images)
  all_back =
      recovered-words order d a c images spans s same_lines told can.chips chip-byte
      ∙ joined_cong d.num_chips _ _ (λ k l. chip-back k l)

  -- read-back refuses nothing
  small : Small d a c
  small = record {
    base = let fit = laid.1.fit in omega (arith, fits-within a.gpio_base a.num_addr_pins fit.window, fit.extent.wide);
    data-base = data-base c (selected (args_of d a c spans) past.tests.domain);
    bytes = can.bytes;
    pins = pins-few d a c images spans (length lent) past.tests;
  }

  select-window : is_multi d.set_type ≡ true → addr.InWindow a (stored.stored_select s)
  select-window m =
      let at = select-at d a laid.0 selected-at.0 laid.1 c selected-at.1.sound wired m in
      let one : Some at.gpio ≡ Some (stored.stored_select s) = sym at.first ∙ given.select m in
      let same : at.gpio ≡ stored.stored_select s = cc in
      subst (addr.InWindow a) same at.inside

  none_before : roms_fault s d.set_type (table_of pad_byte order (args_of d a c spans) images) (length output) (length marks) ≡ None
  none_before =
      let board = (description_in_lem d in_description).board in
      let all = all_same d a c s same_lines in
      none-refused d a c s given small laid.0 laid.1.sound wired board.x1 board.x2 (table_of pad_byte order (args_of d a c spans) images) (length output) (length marks) table-long told
      selected-at.1.sound.data-above can.chips select-window (rw (all, given.word_bytes) room.for-output) (rw all room.for-marks)

  size_right : wrong_size s (table_of pad_byte order (args_of d a c spans) images) ≡ false
  size_right = rw (eq-eqb (length (table_of pad_byte order (args_of d a c spans) images)) s.size (table-long ∙ sym given.size))

  -- so that the entries decide, and none is at fault
  abbrev table : List ℕ
  table = table_of pad_byte order (args_of d a c spans) images

  tested : unscrambled order s table output marks ≡ recover.of_type order s table output marks s.slot_type
  unfolding unscrambled
  tested = rw (stored_in d a c s in_description given, size_right)

  entries_none : or_else (inconsistent s d.set_type table) (unserved s d.set_type) ≡ None
  entries_none =
      both_none _ _ (consistent order d a c images spans s same_lines told can.chips chip-byte) (all_served order d a c images spans s same_lines told can.chips chip-byte)

  reads : unscrambled order s table output marks ≡ returned_whole (args_of d a c spans) images output marks
  reads =
      tested
      ∙ ap (recover.of_type order s table output marks) given.set_type
      ∙ ap (recover.read_after order s d.set_type table output marks) none_before
      ∙ ap (recover.after_entries order s d.set_type table output marks) entries_none
      ∙ ap (λ (r : List ℕ). read_back (Ok tt) (front r output) (front (replicate (sizes.all_words s) 1) marks)) all_back
      ∙ ap (λ (n : ℕ). read_back (Ok tt) (front (joined d.num_chips (first_bytes (args_of d a c spans) images)) output) (front (replicate n 1) marks)) (all_same d a c s same_lines)

  reads_built : unscrambled order s (table_built order (args_of d a c spans) images lent) output marks ≡ returned_whole (args_of d a c spans) images output marks
  reads_built = ap (λ (t : List ℕ). unscrambled order s t output marks) table_is ∙ reads

pub round_trip : RoundTrip
round_trip order b images lent s output marks bytes given unforced ok wired room =
    reads_built order b.description b.addr b.cs_data images b.spans lent s output marks ok bytes wired given unforced room
