-- What the byte order changes of a build and of a read-back, and what it does not. Assumes nothing.
use Rattle.std.specs.Prelude.{ℕ, ◌+◌, ◌*◌, ◌<◌, ◌≡◌, List, [], ◌∷◌, ◌++◌, length, get_or, take, drop, Ok, Err}
use Rattle.words.specs.declared.ByteOrder.{ByteOrder}
use Rattle.words.specs.declared.ByteOrder.TheVariants.{LowFirst, HighFirst}
use Rattle.refusal.specs.declared.Refusal.{Refusal}
use Rattle.slot.specs.declared.description.ChipSetType.{ChipSetType}
use Rattle.build_args.specs.Images.{chip_span, chip_bytes}
use Rattle.build_args.specs.Faults.{entries_of}
use Rattle.build_args.specs.declared.BuildArgs.{BuildArgs}
use Rattle.build_wiring.specs.Counts.{word_count}
use Rattle.rom_image.specs.Entry.{entry_at, table_of}
use Rattle.rom_image.specs.Build.{Built, build_of}
use Rattle.stored_slot.specs.Stored.{word_bytes}
use Rattle.stored_slot.specs.Words.{all_words}
use Rattle.stored_slot.specs.declared.stored.SlotType.TheVariants.{Plugin, Roms}
use Rattle.stored_slot.specs.declared.stored.StoredSlot.{StoredSlot}
use Rattle.unscramble.specs.Recovered.{ReadBack, read_back, unscrambled}

-- a dump with the bytes of each pair exchanged; an odd last byte stays
unfoldable pub swapped : List ℕ → List ℕ
swapped [] = []
swapped (x ∷ []) = x ∷ []
swapped (x ∷ y ∷ l) = y ∷ x ∷ swapped l

-- every chip's dump has its pairs exchanged in the second of two lent slices
abbrev pub ChipsSwapped : BuildArgs → List ℕ → List ℕ → Type 0
ChipsSwapped b images other =
    (k : ℕ) → chip_bytes other (chip_span b.spans k) ≡ swapped (chip_bytes images (chip_span b.spans k))

-- every chip has the same bytes up to its last whole word, and as many bytes in all
pub record SameWords (b : BuildArgs) (images other : List ℕ) : Type 0 where
  pub bytes : (k : ℕ)
      → take (word_count b.description k * b.description.word_bytes) (chip_bytes images (chip_span b.spans k))
      ≡ take (word_count b.description k * b.description.word_bytes) (chip_bytes other (chip_span b.spans k))
  pub as_long : (k : ℕ) → length (chip_bytes images (chip_span b.spans k)) ≡ length (chip_bytes other (chip_span b.spans k))

-- of a build of slot b, as a function of the order, the lent bytes and the lent table
pub record BuildLaw (b : BuildArgs) (build : ByteOrder → List ℕ → List ℕ → Built) : Type 0 where
  -- 02 Slip 5 3: in 8-bit mode order changes nothing
  pub eight : b.description.word_bytes ≡ 1 → (images lent : List ℕ) → build HighFirst images lent ≡ build LowFirst images lent
  -- 02 Slip 5 1: a dump with the high byte first builds what it builds low byte first with its pairs exchanged
  pub swap : b.description.word_bytes ≡ 2 → (images other lent : List ℕ) → ChipsSwapped b images other
      → build HighFirst images lent ≡ build LowFirst other lent
  -- the byte behind the last whole word of an odd size counts for nothing under either order
  pub odd : (order : ByteOrder) (images other lent : List ℕ) → SameWords b images other → build order images lent ≡ build order other lent

-- 02 Slip 5 2: an entry of two bytes has its low byte first, whatever the order of the dumps
abbrev pub EntriesLaw : Type 0
EntriesLaw =
    (pad : ℕ) (order : ByteOrder) (b : BuildArgs) (images : List ℕ) (i : ℕ) → b.description.word_bytes ≡ 2 → i < entries_of b.addr
    → get_or (table_of pad order b images) (2 * i) 0 + 256 * get_or (table_of pad order b images) (2 * i + 1) 0 ≡ entry_at pad order b images i

-- a read-back whose words have the bytes of each pair exchanged
abbrev pub words_swapped : ℕ → ReadBack → ReadBack
words_swapped n r = read_back r.answer (swapped (take (2 * n) r.output) ++ drop (2 * n) r.output) r.marks

-- of a read-back of slot s, as a function of the order and of all that is lent
pub record ReadLaw (s : StoredSlot) (read : ByteOrder → List ℕ → List ℕ → List ℕ → ReadBack) : Type 0 where
  -- 02 Slip 5 3: in 8-bit mode order changes nothing
  pub eight : word_bytes s ≡ 1 → (stored output marks : List ℕ) → read HighFirst stored output marks ≡ read LowFirst stored output marks
  -- a plugin has no words
  pub plugin : s.slot_type ≡ Plugin → (stored output marks : List ℕ) → read HighFirst stored output marks ≡ read LowFirst stored output marks
  -- a refusal does not depend on the order, 23 and 24 included
  pub refused : (why : Refusal) (stored output marks : List ℕ) → (read LowFirst stored output marks).answer ≡ Err why
      → read HighFirst stored output marks ≡ read LowFirst stored output marks
  -- 02 Slip 5 2: read back high byte first, words have the bytes of each pair exchanged
  pub swap : (set : ChipSetType) (stored output marks : List ℕ) → s.slot_type ≡ Roms set → word_bytes s ≡ 2
      → (read LowFirst stored output marks).answer ≡ Ok tt
      → read HighFirst stored output marks ≡ words_swapped (all_words s) (read LowFirst stored output marks)

-- 02 Slip 5 2: the definitions keep these laws, for every slot
pub record OrderLaws : Type 0 where
  pub build : (b : BuildArgs) → BuildLaw b (λ order images lent. build_of order b images lent)
  pub entries : EntriesLaw
  pub read_back_law : (s : StoredSlot) → ReadLaw s (λ order stored output marks. unscrambled order s stored output marks)

-- of two builds of slot b: they build the same high byte first
pub record BuildsAgree (b : BuildArgs) (one other : ByteOrder → List ℕ → List ℕ → Built) : Type 0 where
  pub eight : b.description.word_bytes ≡ 1 → (images lent : List ℕ) → one HighFirst images lent ≡ other HighFirst images lent
  -- where spans overlap there may be no slice that has the pairs of every chip exchanged
  pub sixteen : b.description.word_bytes ≡ 2 → (images pairs lent : List ℕ) → ChipsSwapped b images pairs
      → one HighFirst images lent ≡ other HighFirst images lent

-- two builds that keep the law and agree low byte first agree high byte first, so that a law which said less would not do
abbrev pub OneBuild : Type 0
OneBuild =
    (b : BuildArgs) (one other : ByteOrder → List ℕ → List ℕ → Built) → BuildLaw b one → BuildLaw b other
    → ((images lent : List ℕ) → one LowFirst images lent ≡ other LowFirst images lent) → BuildsAgree b one other

-- of two read-backs of slot s: they read the same high byte first
pub record ReadsAgree (s : StoredSlot) (one other : ByteOrder → List ℕ → List ℕ → List ℕ → ReadBack) : Type 0 where
  pub eight : word_bytes s ≡ 1 → (stored output marks : List ℕ) → one HighFirst stored output marks ≡ other HighFirst stored output marks
  pub plugin : s.slot_type ≡ Plugin → (stored output marks : List ℕ) → one HighFirst stored output marks ≡ other HighFirst stored output marks
  pub refused : (why : Refusal) (stored output marks : List ℕ) → (one LowFirst stored output marks).answer ≡ Err why
      → one HighFirst stored output marks ≡ other HighFirst stored output marks
  pub sixteen : (set : ChipSetType) (stored output marks : List ℕ) → s.slot_type ≡ Roms set → word_bytes s ≡ 2
      → (one LowFirst stored output marks).answer ≡ Ok tt → one HighFirst stored output marks ≡ other HighFirst stored output marks

-- two read-backs likewise
abbrev pub OneRead : Type 0
OneRead =
    (s : StoredSlot) (one other : ByteOrder → List ℕ → List ℕ → List ℕ → ReadBack) → ReadLaw s one → ReadLaw s other
    → ((stored output marks : List ℕ) → one LowFirst stored output marks ≡ other LowFirst stored output marks) → ReadsAgree s one other
