-- What each entry of a built table reads as, and that every word has one. Assumes nothing.
use Rattle.std.specs.Prelude.{Some}
use mathlib.Core.Path.{◌≡◌, sym, ◌∙◌, ap}
use mathlib.Core.Bool.{true}
use mathlib.Core.List.{List}
use Prim.Native.Nat.{ℕ, ◌-◌, ◌*◌, ◌/◌, ◌%◌, ◌^◌, ◌<◌}
use native.Mathlib.Nat.{mod-eq_of_lt}
use native.Mathlib.Omega.{arith}
use lib.ListN.{get_or}
use borrow.Author.Tests.{lt-ltb}
use Rattle.bits.specs.Bits.{gather, scatter}
use Rattle.bits.proofs.Gathered.{gather_cong}
use Rattle.bits.proofs.Back.{gather-scatter}
use Rattle.words.specs.Words.{word, chip_word}
use Rattle.words.specs.declared.ByteOrder.{ByteOrder}
use Rattle.words.proofs.Chip.{chip_lt}
use Rattle.slot.specs.declared.description.Description.{Description}
use Rattle.addr_layout.specs.declared.layout.AddrLayout.{AddrLayout}
use Rattle.cs_data_layout.specs.declared.layout.CsDataLayout.{CsDataLayout}
use Rattle.build_args.specs.Args.{args_of}
use Rattle.build_args.specs.Images.{chip_span, chip_bytes}
use Rattle.build_args.specs.Positions.{line_position, data_position}
use Rattle.build_args.specs.Picks.{num_picks, pick_position}
use Rattle.picks.specs.Picks.{picks_of, picked_by, chips_fit}
use Rattle.build_args.specs.Faults.{entries_of}
use Rattle.build_args.specs.declared.images.ImageSpan.{ImageSpan}
use Rattle.rom_image.specs.Build.{pad_byte}
use Rattle.rom_image.proofs.Read.{entry-word}
use Rattle.build_wiring.specs.Counts.{word_count}
use Rattle.rom_image.specs.Entry.{chip_address, chip_picked, scrambled, entry_at, table_of}
use Rattle.stored_slot.specs.Stored as stored
use Rattle.stored_slot.specs.Words as sizes
use Rattle.unscramble.specs.Words as read
use Rattle.stored_slot.specs.declared.stored.StoredSlot.{StoredSlot}
use Rattle.round_trip.proofs.Fitted.{Fitted, ToldApart}
use Rattle.round_trip.proofs.Served as served
use Rattle.round_trip.proofs.Codes.{code_of, code_lt, code_picks}

-- a word of as many bits as there are lines
back : (n m : ℕ) (p : ℕ → ℕ) (v : ℕ) → n ≡ m → ((k : ℕ) → k < n → p k < m) → ((j k : ℕ) → j < n → k < n → p j ≡ p k → j ≡ k) → v < 2 ^ m
    → gather m p (scatter n p m v) ≡ v
back n m p v e i o h =
    ap (λ (x : ℕ). gather x p (scatter n p m v)) (sym e) ∙ gather-scatter n p m v i o ∙ ap (λ (x : ℕ). v % 2 ^ x) e ∙ mod-eq_of_lt h

module _ (order : ByteOrder) (d : Description) (a : AddrLayout) (c : CsDataLayout) (images : List ℕ) (spans : List ImageSpan) (s : StoredSlot)
    (f : Fitted d a c s) (t : ToldApart d a c) (fit : chips_fit d.set_type d.num_chips ≡ true)
    (bytes : (rom k : ℕ) → get_or (chip_bytes images (chip_span spans rom)) k 0 < 256) where
  -- read-back picks and addresses as the build does
  picked_same : (i : ℕ) → read.rom_picked s d.set_type i ≡ chip_picked d a c i
  unfolding read.rom_picked chip_picked
  picked_same i =
      ap (λ (n : ℕ). picked_by d.set_type n (gather (picks_of d.set_type n) (sizes.stored_pick_position s d.set_type) i)) f.chips
      ∙ ap (picked_by d.set_type d.num_chips) (gather_cong (num_picks d) _ _ i f.pick)

  address_same : (rom i : ℕ) → rom < d.num_chips → read.address_at s rom i ≡ chip_address a i
  unfolding read.address_at chip_address
  address_same rom i l =
      ap (λ (n : ℕ). gather n (stored.addr_position s rom) i) (f.lines rom l) ∙ gather_cong a.num_lines _ _ i (λ k q. f.line rom k l q)

  -- the words that are counted are in the chip
  counted : (rom n : ℕ) → rom < d.num_chips → n < sizes.rom_words s rom → n < word_count d rom
  counted rom n l q =
      let e : (stored.rom_at s rom).chip_size / stored.word_bytes s ≡ word_count d rom = rw (f.size rom l, f.bytes) in
      omega (arith, e, q)

  abbrev word_in : ℕ → ℕ → ℕ
  word_in rom n = chip_word order d.word_bytes (chip_bytes images (chip_span spans rom)) n

  -- the entry that picks a chip at an address that is counted holds that word, scrambled
  entry-holds : (rom n i : ℕ) → rom < d.num_chips → chip_picked d a c i ≡ Some rom → chip_address a i ≡ n → n < word_count d rom
      → entry_at pad_byte order (args_of d a c spans) images i ≡ scrambled d c (word_in rom n)
  unfolding entry_at
  entry-holds rom n i l p q r = rw (p, q, lt-ltb n (word_count d rom) r)

  -- and reads back as it
  unscrambled-word : (v : ℕ) → v < 2 ^ (8 * d.word_bytes) → gather (8 * d.word_bytes) (data_position c) (scrambled d c v) ≡ v
  unfolding scrambled
  unscrambled-word v h = back c.num_data_pins (8 * d.word_bytes) (data_position c) v t.data-lines t.data_in t.data-own h

  pub value_is : (rom n i : ℕ) → rom < d.num_chips → i < entries_of a → read.rom_picked s d.set_type i ≡ Some rom
      → read.address_at s rom i ≡ n → n < sizes.rom_words s rom → read.value_at s (table_of pad_byte order (args_of d a c spans) images) rom i ≡ word_in rom n
  unfolding read.value_at
  value_is rom n i l h p q r =
      let held = entry-holds rom n i l (sym (picked_same i) ∙ p) (sym (address_same rom i l) ∙ q) (counted rom n l r) in
      ap (λ (w : ℕ). gather (8 * w) (stored.stored_data_position s rom) (word w (table_of pad_byte order (args_of d a c spans) images) i)) f.bytes
      ∙ gather_cong (8 * d.word_bytes) _ _ _ (λ k m. f.data-line rom k l (rw t.data-lines m))
      ∙ ap (gather (8 * d.word_bytes) (data_position c)) (entry-word pad_byte order (args_of d a c spans) images i h ∙ held)
      ∙ unscrambled-word (word_in rom n) (chip_lt order d.word_bytes (chip_bytes images (chip_span spans rom)) (n * d.word_bytes) (bytes rom))

  -- every word has an entry
  module _ (rom n : ℕ) (l : rom < d.num_chips) (q : n < 2 ^ a.num_lines) where
    abbrev code : ℕ
    code = code_of d.set_type rom

    code_small : code < 2 ^ num_picks d
    code_small = code_lt d.set_type d.num_chips rom fit l

    pub index : ℕ
    index = served.at a.num_lines (num_picks d) a.num_addr_pins (line_position a) (pick_position d a c) t.index_in t.index_own n code q code_small

    pub index_lt : index < entries_of a
    unfolding index
    index_lt = served.at_lt a.num_lines (num_picks d) a.num_addr_pins (line_position a) (pick_position d a c) t.index_in t.index_own n code q code_small

    pub index_picks : read.rom_picked s d.set_type index ≡ Some rom
    unfolding chip_picked index
    index_picks =
        picked_same index
        ∙ ap (picked_by d.set_type d.num_chips) (served.high-at a.num_lines (num_picks d) a.num_addr_pins (line_position a) (pick_position d a c) t.index_in t.index_own n code q code_small)
        ∙ code_picks d.set_type d.num_chips rom fit l

    pub index_address : read.address_at s rom index ≡ n
    unfolding chip_address index
    index_address =
        address_same rom index l
        ∙ served.low-at a.num_lines (num_picks d) a.num_addr_pins (line_position a) (pick_position d a c) t.index_in t.index_own n code q code_small
