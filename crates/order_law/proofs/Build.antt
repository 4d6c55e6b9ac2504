-- What the byte order changes of a build: the same words of every chip build the same table. Assumes nothing.
use Rattle.std.specs.Prelude.{Option, Some, None, Ok, Err}
use Rattle.refusal.specs.declared.Refusal.{Refusal}
use mathlib.Core.Path.{◌≡◌, refl, sym, ◌∙◌, ap}
use mathlib.Core.Bool.{Bool, true, false, cond}
use mathlib.Core.List.{List, ◌++◌}
use Prim.Native.Nat.{ℕ, ◌+◌, ◌*◌, ◌/◌, ◌%◌, ◌≤◌, ◌<◌}
use native.Mathlib.Nat.{zero-add, div-mul-le_self, mod-lt}
use native.Mathlib.Omega.{arith}
use lib.Dec.{ltb}
use lib.ListN.{length, get_or, take, drop}
use borrow.Author.Tests.{ltb-true}
use Rattle.bits.proofs.Gathered.{gather_lt}
use Rattle.words.specs.Words.{word_from, word, chip_word}
use Rattle.words.specs.declared.ByteOrder.{ByteOrder}
use Rattle.words.specs.declared.ByteOrder.TheVariants.{LowFirst, HighFirst}
use Rattle.words.proofs.Words.{words_cong, words-room}
use Rattle.words.proofs.Chip.{chip_part}
use Rattle.refusal.specs.First.{or_else, fault_if, first_of}
use Rattle.refusal.specs.declared.Refusal.TheVariants.{OutOfDomain, RomTableTooLarge, ShortImageData, ShortBuffer}
use Rattle.slot.specs.Description.{no_chip}
use Rattle.picks.specs.Picks.{chips_fit}
use Rattle.picks.proofs.Picking.{picked-below}
use Rattle.build_args.specs.Images.{chip_span, chip_bytes}
use Rattle.build_args.specs.Picks.{num_picks, pick_position}
use Rattle.build_args.specs.Domain.{build_in}
use Rattle.build_args.specs.Faults.{entries_of, table_size, table_too_large, too_short, missing_at, lines_fault, build_fault}
use Rattle.build_args.specs.declared.BuildArgs.{BuildArgs}
use Rattle.build_wiring.specs.Counts.{word_count, power_of_two}
use Rattle.rom_image.specs.Entry.{chip_address, chip_picked, pad_of, word_of, scrambled, entry_at, table_of}
use Rattle.rom_image.specs.Build.{built, pad_byte, build_after, build_of}
use Rattle.rom_image.specs.Design.Past.{PastTests}
use Rattle.rom_image.proofs.Chips.{power_some}
use Rattle.rom_image.proofs.Past.{buildable}
use Rattle.rom_image.proofs.Read.{entry-word}
use Rattle.order_law.specs.Law.{ChipsSwapped, SameWords, BuildLaw, EntriesLaw}
use Rattle.order_law.proofs.Swapped.{swapped-length, turned_word, swapped-word}

module _ (b : BuildArgs) where
  abbrev width : ℕ
  width = b.description.word_bytes

  abbrev chips : ℕ
  chips = b.description.num_chips

  abbrev size_of : ℕ → ℕ
  size_of k = (get_or b.description.chips k no_chip).size

  abbrev count : ℕ → ℕ
  count k = word_count b.description k

  -- the bytes of chip k, and its word n
  abbrev dump : List ℕ → ℕ → List ℕ
  dump images k = chip_bytes images (chip_span b.spans k)

  abbrev word_in : ByteOrder → List ℕ → ℕ → ℕ → ℕ
  word_in order images k n = chip_word order width (dump images k) n

  -- each chip has its bytes
  abbrev Whole : List ℕ → Type 0
  Whole images = (k : ℕ) → k < chips → size_of k ≤ length (dump images k)

  -- two orders, each with its lent bytes, that come to the same words
  abbrev Same : ByteOrder → List ℕ → ByteOrder → List ℕ → Type 0
  Same order images order' images' = (k n : ℕ) → k < chips → n < count k → word_in order images k n ≡ word_in order' images' k n

  module _ (order : ByteOrder) (images : List ℕ) (order' : ByteOrder) (images' : List ℕ) where
    module _ (same : Same order images order' images') (fit : chips_fit b.description.set_type chips ≡ true) where
      word_same : (pad n : ℕ) (p : Option ℕ) → ((k : ℕ) → p ≡ Some k → k < chips)
          → word_of pad order b.description images b.spans p n ≡ word_of pad order' b.description images' b.spans p n
      word_same pad n None h = refl
      word_same pad n (Some k) h = by (pad_of pad b.description) (ltb n (count k)) refl (power_of_two (count k)) refl
        where
          by : (none : ℕ) (t : Bool) → ltb n (count k) ≡ t → (u : Bool) → power_of_two (count k) ≡ u
              → cond t (word_in order images k n) (cond u (word_in order images k (n % count k)) none)
              ≡ cond t (word_in order' images' k n) (cond u (word_in order' images' k (n % count k)) none)
          by none true e u f = same k n (h k refl) (ltb-true n (count k) e)
          by none false e true f = same k (n % count k) (h k refl) (mod-lt n (power_some (count k) f))
          by none false e false f = refl

      entry-same : (pad i : ℕ) → entry_at pad order b images i ≡ entry_at pad order' b images' i
      unfolding entry_at chip_picked
      entry-same pad i =
          ap (scrambled b.description b.cs_data)
          (word_same pad (chip_address b.addr i) (chip_picked b.description b.addr b.cs_data i)
          (λ k e. picked-below b.description.set_type chips _ k fit
          (gather_lt (num_picks b.description) (pick_position b.description b.addr b.cs_data) i) e))

      table_same : (pad : ℕ) → table_of pad order b images ≡ table_of pad order' b images'
      unfolding table_of
      table_same pad = words_cong width _ _ (entries_of b.addr) (λ i h. entry-same pad i)

    -- no test of the lent bytes asks for more than their number
    module _ (long : (k : ℕ) → length (dump images k) ≡ length (dump images' k)) where
      fault-same : (room : ℕ) → build_fault b images room ≡ build_fault b images' room
      unfolding build_fault
      fault-same room =
          λ i. or_else (fault_if (table_too_large b.description b.addr) RomTableTooLarge)
          (or_else (lines_fault b.description b.addr b.cs_data)
          (or_else (or_else (first_of chips (missing_at b.spans)) (first_of chips (λ k. fault_if (ltb (long k i) (size_of k)) (ShortImageData k))))
          (fault_if (too_short b.description b.addr room) ShortBuffer)))

      -- the words count only where each chip has its bytes
      module _ (same : Whole images → Same order images order' images') (lent : List ℕ) where
        after_same : (t : Bool) → build_in b ≡ t → (f : Option Refusal) → build_fault b images (length lent) ≡ f
            → cond t (build_after order b images lent f) (built (Err OutOfDomain) lent)
            ≡ cond t (build_after order' b images' lent f) (built (Err OutOfDomain) lent)
        after_same false e f g = refl
        after_same true e (Some why) g = refl
        after_same true e None g =
            let past : PastTests b images (length lent) = record { domain = e; no_fault = g } in
            let able = buildable b.description b.addr b.cs_data images b.spans (length lent) past in
            ap (λ (t : List ℕ). built (Ok tt) (t ++ drop (table_size b.description b.addr) lent))
            (table_same (same able.lent) able.chips pad_byte)

        build-same : build_of order b images lent ≡ build_of order' b images' lent
        unfolding build_of
        build-same =
            after_same (build_in b) refl (build_fault b images (length lent)) refl
            ∙ ap (λ (f : Option Refusal). cond (build_in b) (build_after order' b images' lent f) (built (Err OutOfDomain) lent))
            (fault-same (length lent))

  -- a word that is counted has its bytes in the dump
  word_room : (images : List ℕ) → Whole images → (k n : ℕ) → k < chips → n < count k → n * width + width ≤ length (dump images k)
  word_room images whole k n l h = words-room n (size_of k / width) width _ h (omega (arith, whole k l, div-mul-le_self (size_of k) width))

  same-swapped : width ≡ 2 → (images other : List ℕ) → ChipsSwapped b images other → Whole images → Same HighFirst images LowFirst other
  same-swapped e images other s whole k n l h =
      swapped-word width (dump images k) n e (word_room images whole k n l h) ∙ ap (λ (x : List ℕ). chip_word LowFirst width x n) (sym (s k))

  -- the words that are counted are in the bytes up to the last whole one
  word_of_lem : (order : ByteOrder) (images : List ℕ) (k n : ℕ) → n < count k
      → chip_word order width (take (count k * width) (dump images k)) n ≡ word_in order images k n
  word_of_lem order images k n h =
      rw zero-add at
      (chip_part order width (dump images k) 0 (count k * width) (n * width)
      (words-room n (count k) width (count k * width) h (omega arith)))

  same-words : (order : ByteOrder) (images other : List ℕ) → SameWords b images other → Same order images order other
  same-words order images other s k n l h =
      sym (word_of_lem order images k n h) ∙ ap (λ (x : List ℕ). chip_word order width x n) (s.bytes k) ∙ word_of_lem order other k n h

pub build_law : (b : BuildArgs) → BuildLaw b (λ order images lent. build_of order b images lent)
build_law b = record {
  eight = λ e images lent.
      build-same b HighFirst images LowFirst images (λ k. refl) (λ whole k n l h. turned_word (width b) (dump b images k) n e) lent;
  swap = λ e images other lent s.
      build-same b HighFirst images LowFirst other (λ k. sym (swapped-length (dump b images k)) ∙ ap length (sym (s k)))
      (same-swapped b e images other s) lent;
  odd = λ order images other lent s.
      build-same b order images order other s.as_long (λ whole. same-words b order images other s) lent;
}

-- an entry of the table as its two bytes

two_bytes : (w : ℕ) (t : List ℕ) (i : ℕ) → w ≡ 2 → get_or t (2 * i) 0 + 256 * get_or t (2 * i + 1) 0 ≡ word w t i
unfolding word_from
two_bytes w t i e =
    let at : i * 2 ≡ 2 * i = omega arith in
    rw (e, at) (omega arith)

pub entries_law : EntriesLaw
entries_law pad order b images i e h =
    two_bytes b.description.word_bytes (table_of pad order b images) i e ∙ entry-word pad order b images i h
