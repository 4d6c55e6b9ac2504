-- A built table reads back: no entry disagrees, every word has one, and what is recovered are the chips' words. Assumes nothing.
use Rattle.std.specs.Prelude.{Option, Some, None}
use mathlib.Core.Path.{◌≡◌, refl, sym, ◌∙◌, ap}
use mathlib.Core.Bool.{Bool, true, false, not, ◌&&◌}
use mathlib.Core.List.{List}
use Prim.Native.Nat.{ℕ, ◌^◌, ◌<◌}
use native.Mathlib.Omega.{arith}
use lib.ListN.{get_or}
use borrow.Author.Tests.{eq-eqb, ne_eqb}
use Rattle.lists.specs.Tab.{joined}
use Rattle.lists.proofs.Tab.{joined_cong}
use Rattle.words.specs.Words.{chip_word, chip_words_bytes}
use Rattle.words.specs.declared.ByteOrder.{ByteOrder}
use Rattle.words.proofs.Chip.{chip_words_cong}
use Rattle.slot.specs.declared.description.Description.{Description}
use Rattle.refusal.specs.declared.Refusal.{Refusal}
use Rattle.addr_layout.specs.declared.layout.AddrLayout.{AddrLayout}
use Rattle.cs_data_layout.specs.declared.layout.CsDataLayout.{CsDataLayout}
use Rattle.build_args.specs.Args.{args_of}
use Rattle.build_args.specs.Images.{chip_span, chip_bytes}
use Rattle.build_args.specs.Faults.{entries_of}
use Rattle.picks.specs.Picks.{chips_fit}
use Rattle.refusal.specs.First.{fault_if}
use Rattle.build_args.specs.declared.images.ImageSpan.{ImageSpan}
use Rattle.refusal.proofs.Firsts.{none_of}
use Rattle.rom_image.specs.Build.{pad_byte}
use Rattle.rom_image.specs.Entry.{table_of}
use Rattle.lists.proofs.First.{first_passes, first_found}
use Rattle.stored_slot.specs.Stored as stored
use Rattle.stored_slot.specs.Words as sizes
use Rattle.unscramble.specs.Words as read
use Rattle.unscramble.specs.Recovered.{first_for, kept_value, disagrees_for, inconsistent, unserved_in, unserved, recovered}
use Rattle.stored_slot.specs.declared.stored.StoredSlot.{StoredSlot}
use Rattle.unscramble.proofs.Serves as serves
use Rattle.unscramble.proofs.Serves.{serves-picks, serves-address, serves-counted, serves_is}
use Rattle.round_trip.proofs.Fitted.{Fitted, ToldApart}
use Rattle.round_trip.proofs.Values.{value_is, index, index_lt, index_picks, index_address}

-- a test of two that fails by its second
never : (b c : Bool) (why : Refusal) → (b ≡ true → c ≡ true) → fault_if (b && not c) why ≡ None
never true c why h = rw (h refl)
never false c why h = refl

module _ (order : ByteOrder) (d : Description) (a : AddrLayout) (c : CsDataLayout) (images : List ℕ) (spans : List ImageSpan) (s : StoredSlot)
    (f : Fitted d a c s) (t : ToldApart d a c) (fit : chips_fit d.set_type d.num_chips ≡ true)
    (bytes : (rom k : ℕ) → get_or (chip_bytes images (chip_span spans rom)) k 0 < 256) where
  abbrev table : List ℕ
  table = table_of pad_byte order (args_of d a c spans) images

  abbrev word_in : ℕ → ℕ → ℕ
  word_in rom n = chip_word order d.word_bytes (chip_bytes images (chip_span spans rom)) n

  entries-same : 2 ^ stored.stored_pins s ≡ entries_of a
  entries-same = ap (λ (x : ℕ). 2 ^ x) f.pins

  -- a ROM that is picked is one of the slot's
  picked-there : (rom i : ℕ) → read.rom_picked s d.set_type i ≡ Some rom → rom < d.num_chips
  picked-there rom i p = omega (arith, f.chips, serves.picked-there s d.set_type (ap (chips_fit d.set_type) f.chips ∙ fit) rom i p)

  -- an entry for a word has that word
  served_value : (rom n i : ℕ) → i < 2 ^ stored.stored_pins s → read.serves s d.set_type rom n i ≡ true → read.value_at s table rom i ≡ word_in rom n
  served_value rom n i l e =
      let p = serves-picks s d.set_type rom n i e in
      value_is order d a c images spans s f t fit bytes rom n i (picked-there rom i p) (rw (← entries-same) l) p (serves-address s d.set_type rom n i e)
      (serves-counted s d.set_type rom n i e)

  kept_value_lem : (rom n i : ℕ) → i < 2 ^ stored.stored_pins s → read.serves s d.set_type rom n i ≡ true → kept_value s d.set_type table rom n ≡ word_in rom n
  kept_value_lem rom n i l e =
      let g = first_found (read.serves s d.set_type rom n) (2 ^ stored.stored_pins s) i l e in
      served_value rom n _ g (first_passes (read.serves s d.set_type rom n) (2 ^ stored.stored_pins s) g)

  agrees : (i : ℕ) → i < 2 ^ stored.stored_pins s → (p : Option ℕ) → disagrees_for s d.set_type table i p ≡ None
  agrees i l None = refl
  agrees i l (Some rom) =
      never (read.serves s d.set_type rom (read.address_at s rom i) i) _ _ (λ e.
      eq-eqb _ _ (served_value rom _ i l e ∙ sym (kept_value_lem rom _ i l e)))

  pub consistent : inconsistent s d.set_type table ≡ None
  consistent = none_of (2 ^ stored.stored_pins s) _ (λ i l. agrees i l (read.rom_picked s d.set_type i))

  -- a counted word has an entry
  module _ (rom n : ℕ) (l : rom < d.num_chips) (q : n < sizes.rom_words s rom) where
    addressed : n < 2 ^ a.num_lines
    addressed = let e : 2 ^ stored.addr_lines (stored.rom_at s rom) ≡ 2 ^ a.num_lines = ap (λ (x : ℕ). 2 ^ x) (f.lines rom l) in omega (arith, e, q)

    abbrev at : ℕ
    at = index order d a c images spans s f t fit bytes rom n l addressed

    at_lt : at < 2 ^ stored.stored_pins s
    at_lt = rw entries-same (index_lt order d a c images spans s f t fit bytes rom n l addressed)

    at-serves : read.serves s d.set_type rom n at ≡ true
    at-serves =
        serves_is s d.set_type rom n at (f.unforced at) (index_picks order d a c images spans s f t fit bytes rom n l addressed)
        (index_address order d a c images spans s f t fit bytes rom n l addressed) q

    served_one : unserved_in s d.set_type rom n ≡ None
    served_one =
        let g = first_found (read.serves s d.set_type rom n) (2 ^ stored.stored_pins s) at at_lt at-serves in
        rw (ne_eqb (first_for s d.set_type rom n (2 ^ stored.stored_pins s)) (2 ^ stored.stored_pins s) (λ e. omega arith))

    kept-one : kept_value s d.set_type table rom n ≡ word_in rom n
    kept-one = kept_value_lem rom n at at_lt at-serves

  pub all_served : unserved s d.set_type ≡ None
  all_served = none_of s.num_roms _ (λ rom l. none_of (sizes.rom_words s rom) _ (λ n q. served_one rom n (rw (← f.chips) l) q))

  -- each chip's words as far as they are counted, one chip behind the other
  pub recovered-words : recovered order s d.set_type table ≡ joined d.num_chips (λ rom. chip_words_bytes order d.word_bytes (word_in rom) (sizes.rom_words s rom))
  unfolding recovered
  recovered-words =
      joined_cong s.num_roms _ _ (λ rom l.
      ap (λ (w : ℕ). chip_words_bytes order w (kept_value s d.set_type table rom) (sizes.rom_words s rom)) f.bytes
      ∙ chip_words_cong order d.word_bytes _ _ (sizes.rom_words s rom) (λ n q. kept-one rom n (rw (← f.chips) l) q))
      ∙ ap (λ (n : ℕ). joined n (λ rom. chip_words_bytes order d.word_bytes (word_in rom) (sizes.rom_words s rom))) f.chips
