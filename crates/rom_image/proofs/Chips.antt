-- The words of a chip that is picked are where its source says. Assumes nothing.
use Rattle.std.specs.Prelude.{Option, Some, None}
use mathlib.Core.Path.{◌≡◌, refl, sym}
use mathlib.Core.Bool.{Bool, true, false, cond}
use mathlib.Core.List.{List}
use Prim.Native.Nat.{ℕ, zero, suc, ◌+◌, ◌*◌, ◌/◌, ◌%◌, ◌≤◌, ◌<◌}
use native.Mathlib.Nat.{div-mul-le_self, mod-lt}
use native.Mathlib.Omega.{arith}
use lib.Count.{ones, ones_in}
use lib.Dec.{ltb}
use lib.ListN.{length, get_or, length-take, length-drop}
use borrow.Author.Tests.{ltb-true, le-ltb}
use Rattle.lists.proofs.Loops.{zero_one}
use Rattle.words.specs.Words.{chip_word_from, chip_word}
use Rattle.words.specs.declared.ByteOrder.{ByteOrder}
use Rattle.words.proofs.Words.{words-room}
use Rattle.words.proofs.Chip.{chip_part}
use Rattle.table_fill.specs.Design.Entries.{SourceIn, raw_from}
use Rattle.slot.specs.Description.{no_chip}
use Rattle.slot.specs.declared.description.Description.{Description}
use Rattle.build_args.specs.Images.{chip_span, chip_bytes}
use Rattle.build_args.specs.declared.images.ImageSpan.{ImageSpan}
use Rattle.build_wiring.specs.Counts.{word_count, power_of_two}
use Rattle.rom_image.specs.Entry.{pad_of, word_of}
use Rattle.build_wiring.specs.Design.Wiring.{source_of}

pub power_some : (n : ℕ) → power_of_two n ≡ true → 0 < n
unfolding ones ones_in
power_some zero e = absurd (zero_one cc)
power_some (suc n) e = omega arith

-- a chip's bytes, as many as its size
module _ (images : List ℕ) (span : ImageSpan) (w size : ℕ) (fits : size ≤ length (chip_bytes images span)) where
  -- word n is in the chip's bytes, and so in the lent ones
  chip-room : (n : ℕ) → n < size / w → n * w + w ≤ length (chip_bytes images span)
  chip-room n h = words-room n (size / w) w _ h (omega (arith, div-mul-le_self size w))

  chip-within : (n : ℕ) → 1 ≤ w → n < size / w → span.start + n * w + w ≤ length images
  unfolding chip_bytes
  chip-within n p h = omega (arith, rw (length-take, length-drop) at (chip-room n h))

  chip-word : (order : ByteOrder) (n : ℕ) → n < size / w → chip_word_from order w images (span.start + n * w) ≡ chip_word order w (chip_bytes images span) n
  unfolding chip_bytes
  chip-word order n h = sym (chip_part order w images span.start span.length (n * w) (omega (arith, rw length-take at (chip-room n h))))

  -- the word at an address, by the tests on it
  chip_raw : (order : ByteOrder) (pad n : ℕ) (t m : Bool) → ltb n (size / w) ≡ t → power_of_two (size / w) ≡ m
      → cond t (chip_word_from order w images (span.start + n * w)) (cond m (chip_word_from order w images (span.start + n % (size / w) * w)) pad)
      ≡ cond t (chip_word order w (chip_bytes images span) n) (cond m (chip_word order w (chip_bytes images span) (n % (size / w))) pad)
  chip_raw order pad n true m e f = chip-word order n (ltb-true n (size / w) e)
  chip_raw order pad n false true e f = chip-word order (n % (size / w)) (mod-lt n (power_some (size / w) f))
  chip_raw order pad n false false e f = refl

module _ (d : Description) (images : List ℕ) (spans : List ImageSpan) where
  -- the chip that is picked has its bytes
  abbrev pub Lent : Option ℕ → Type 0
  Lent p = (k : ℕ) → p ≡ Some k → (get_or d.chips k no_chip).size ≤ length (chip_bytes images (chip_span spans k))

  pub raw_word : (order : ByteOrder) (pad : ℕ) (p : Option ℕ) (n : ℕ) → Lent p → raw_from order images d.word_bytes (source_of d spans p) (pad_of pad d) n ≡ word_of pad order d images spans p n
  raw_word order pad None n h = rw (le-ltb n 0 (omega arith))
  raw_word order pad (Some k) n h =
      chip_raw images (chip_span spans k) d.word_bytes (get_or d.chips k no_chip).size (h k refl) order (pad_of pad d) n
      (ltb n (word_count d k)) (power_of_two (word_count d k)) refl refl

  pub source_in : (p : Option ℕ) → 1 ≤ d.word_bytes → Lent p → SourceIn images d.word_bytes (source_of d spans p)
  source_in None b h = record { within = λ n l. absurd (omega arith); some = λ e. absurd (zero_one cc) }
  source_in (Some k) b h = record {
    within = λ n l. chip-within images (chip_span spans k) d.word_bytes (get_or d.chips k no_chip).size (h k refl) n b l;
    some = power_some (word_count d k);
  }
