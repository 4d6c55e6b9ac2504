-- What the entries come to, read by the code's tables, is what read-back answers. Assumes nothing.
use Rattle.std.specs.Prelude.{Result, Ok}
use Rattle.refusal.specs.declared.Refusal.{Refusal}
use mathlib.Core.Path.{◌≡◌, refl, sym, ◌∙◌, ap, subst}
use mathlib.Core.Bool.{true}
use mathlib.Core.List.{List, ◌++◌}
use Prim.Native.Nat.{ℕ, ◌*◌, ◌^◌, ◌≤◌, ◌<◌}
use native.Mathlib.Nat.{le_of_eq}
use native.Mathlib.Omega.{arith}
use lib.Dec.{eqb}
use lib.Pow.{pow_mono}
use lib.ListN.{length, drop, replicate, length-replicate}
use Rattle.words.specs.declared.ByteOrder.{ByteOrder}
use Rattle.words.proofs.Turned.{turned_word, turned_eqb}
use Rattle.slot.specs.declared.description.ChipSetType.{ChipSetType}
use Rattle.refusal.specs.First.{or_else, answered}
use Rattle.picks.specs.Picks.{chips_fit}
use Rattle.entry_words.specs.Design.Kept.{output_after, outcome_of}
use Rattle.entry_words.specs.Design.Reading.{word_by, value_by}
use Rattle.entry_words.specs.Design.Lent.{Lent}
use Rattle.entry_words.specs.declared.Reading.{Reading}
use Rattle.lent_buffers.specs.Design.Buffers.{Kept, kept}
use Rattle.entry_words.specs.Design.Collected.{marks_held, held_by, collected_of}
use Rattle.entry_words.specs.declared.Outcome.{Outcome}
use Rattle.entry_words.specs.declared.Outcome.TheVariants.{Whole, Disagrees, Missing}
use Rattle.entry_words.proofs.Cong.{output-length, marks_cong, output_cong, outcome_cong}
use Rattle.stored_slot.specs.Stored.{rom_at, word_bytes, stored_pins, data_lines}
use Rattle.stored_slot.specs.Words.{all_words}
use Rattle.unscramble.specs.Design.Place.{outcome_fault}
use Rattle.unscramble.proofs.WordAt.{word_at, said_at}
use Rattle.unscramble.specs.Design.Past.{PastTests}
use Rattle.unscramble.specs.Design.Reading.{Readable, reading_of}
use Rattle.unscramble.specs.Recovered.{ReadBack, read_back, front, inconsistent, unserved, recovered, after_entries}
use Rattle.stored_slot.specs.declared.stored.StoredSlot.{StoredSlot}
use Rattle.unscramble.proofs.Same.{fault-same, output-same, marks-same}
use Rattle.unscramble.proofs.ReadBy.{word_same, said_same, said_fits, reading_in}
use Rattle.unscramble.proofs.Unrefused.{few-roms, fit, room-output, room-marks, table-long, data-whole, readable}

-- a front as long as what it takes the place of
front_long : (new old : List ℕ) (n : ℕ) → length new ≡ n → new ++ drop n old ≡ front new old
front_long new old n e = rw (← e)

module _ (order : ByteOrder) (s : StoredSlot) (set : ChipSetType) (stored output marks : List ℕ)
    (fit : chips_fit set s.num_roms ≡ true) (few : s.num_roms ≤ 4) (small : word_bytes s ≤ 2) (whole : (rom : ℕ) → rom < s.num_roms → data_lines (rom_at s rom) ≡ 8 * word_bytes s) where
  abbrev w : ℕ
  w = word_bytes s

  abbrev words : ℕ
  words = all_words s

  abbrev entries : ℕ
  entries = 2 ^ stored_pins s

  abbrev for-word : ℕ → ℕ
  for-word = word_at s set

  abbrev says : ℕ → ℕ
  says = said_at s set stored

  -- by the code's tables, and by the definitions
  same-for : (i : ℕ) → i < entries → word_by (reading_of order s set) i ≡ for-word i
  same-for i l = word_same order s set fit few i

  -- low byte first the words stand as those that are read do in the order of the dump
  abbrev turned : ℕ → ℕ
  turned i = turned_word order w (says i)

  same-says : (i : ℕ) → i < entries → value_by (reading_of order s set) stored i ≡ turned i
  same-says i l = said_same order s set fit few small whole stored i

  fits : (i : ℕ) → says i < 2 ^ (8 * w)
  fits i = said_fits order s set fit few small whole stored i

  -- two entries say the same just where their words, turned, are the same
  alike : (i j : ℕ) → i < entries → j < entries
      → eqb (value_by (reading_of order s set) stored i) (value_by (reading_of order s set) stored j) ≡ eqb (says i) (says j)
  alike i j l h = rw (same-says i l, same-says j h) (turned_eqb order w (says i) (says j) (fits i) (fits j))

  same_outcome : outcome_of (word_by (reading_of order s set)) (value_by (reading_of order s set) stored) words entries ≡ outcome_of for-word says words entries
  same_outcome = outcome_cong _ _ entries same-for _ _ alike words

  held_same : (x : Outcome)
      → ◌≡◌ {A = Kept Outcome} (held_by w (word_by (reading_of order s set)) (value_by (reading_of order s set) stored) words entries output marks x) (held_by w for-word turned words entries output marks x)
  held_same Whole = rw (output_cong _ _ entries same-for _ _ same-says w words, marks_cong _ _ entries same-for words)
  held_same (Disagrees f) = refl
  held_same (Missing f) = refl

  abbrev read : Kept Outcome → ReadBack
  read k = read_back (answered (outcome_fault s k.answer)) k.output k.marks

  -- 0 over all words
  cleared : (why : Result (Unit {0}) Refusal)
      → read_back why (replicate (words * w) 0 ++ drop (words * w) output) (replicate words 0 ++ drop words marks)
      ≡ read_back why (front (replicate (words * w) 0) output) (front (replicate words 0) marks)
  cleared why =
      ap (λ (o : List ℕ). read_back why o (replicate words 0 ++ drop words marks)) (front_long (replicate (words * w) 0) output (words * w) (length-replicate {A = ℕ} (words * w) 0))
      ∙ ap (λ (m : List ℕ). read_back why (front (replicate (words * w) 0) output) m) (front_long (replicate words 0) marks words (length-replicate {A = ℕ} words 0))

  -- by the outcome
  by_outcome : (x : Outcome) → outcome_of for-word says words entries ≡ x → read (held_by w for-word turned words entries output marks x) ≡ after_entries order s set stored output marks (outcome_fault s x)
  by_outcome Whole e =
      let out = front_long (output_after w for-word turned words entries) output (words * w) (output-length w for-word turned words entries)
      ∙ ap (λ (x : List ℕ). front x output) (output-same s set stored fit e order) in
      let told = ap (λ (x : List ℕ). x ++ drop words marks) (marks-same s set stored fit e) ∙ front_long (replicate words 1) marks words (length-replicate {A = ℕ} words 1) in
      ap (λ (o : List ℕ). read_back (Ok tt) o (marks_held for-word words entries marks)) out ∙ ap (λ (m : List ℕ). read_back (Ok tt) (front (recovered order s set stored) output) m) told
  by_outcome (Disagrees f) e = cleared (answered (outcome_fault s (Disagrees f)))
  by_outcome (Missing f) e = cleared (answered (outcome_fault s (Missing f)))

  pub finished : (x : Outcome) (o m : List ℕ) → kept x o m ≡ collected_of w (word_by (reading_of order s set)) (value_by (reading_of order s set) stored) words entries output marks
      → read_back (answered (outcome_fault s x)) o m ≡ after_entries order s set stored output marks (or_else (inconsistent s set stored) (unserved s set))
  unfolding collected_of
  finished x o m e =
      ap read e
      ∙ ap read (held_same (outcome_of (word_by (reading_of order s set)) (value_by (reading_of order s set) stored) words entries))
      ∙ ap (λ (y : Outcome). read (held_by w for-word turned words entries output marks y)) same_outcome
      ∙ by_outcome (outcome_of for-word says words entries) refl
      ∙ ap (after_entries order s set stored output marks) (fault-same s set stored fit)

-- the same of a slot that nothing before the entries refuses, for the code's own reading and number of entries
module _ (order : ByteOrder) (s : StoredSlot) (set : ChipSetType) (stored output marks : List ℕ)
    (past : PastTests s set stored (length output) (length marks)) where
  abbrev can : Readable s set
  can = readable s set stored (length output) (length marks) past

  abbrev data-lines : (rom : ℕ) → rom < s.num_roms → data_lines (rom_at s rom) ≡ 8 * word_bytes s
  data-lines = data-whole s set stored (length output) (length marks) past

  abbrev Collectable : Reading → ℕ → Type 0
  Collectable r n = Lent r stored output marks n

  collectable_so : Collectable (reading_of order s set) (2 ^ stored_pins s)
  unfolding reading_of
  collectable_so = record {
    reading = reading_in order s set (few-roms s past.domain) data-lines can;
    few = pow_mono {j = 31} (omega (arith, can.pins));
    entries = le_of_eq (sym (table-long s set stored (length output) (length marks) past));
    room = record {
      few = can.words;
      output-room = room-output s set stored (length output) (length marks) past;
      marks-room = room-marks s set stored (length output) (length marks) past;
    };
  }

  pub collectable : (r : Reading) (n : ℕ) → r ≡ reading_of order s set → n ≡ 2 ^ stored_pins s → Collectable r n
  collectable r n e h = subst (λ (x : Reading). Collectable x n) (sym e) (subst (Collectable (reading_of order s set)) (sym h) collectable_so)

  abbrev Finishes : Reading → ℕ → Type 0
  Finishes r n = (x : Outcome) (o m : List ℕ) (why : Result (Unit {0}) Refusal) → why ≡ answered (outcome_fault s x)
      → kept x o m ≡ collected_of r.word_bytes (word_by r) (value_by r stored) r.words n output marks
      → read_back why o m ≡ after_entries order s set stored output marks (or_else (inconsistent s set stored) (unserved s set))

  finishes_so : Finishes (reading_of order s set) (2 ^ stored_pins s)
  unfolding reading_of
  finishes_so x o m why e h =
      ap (λ (y : Result (Unit {0}) Refusal). read_back y o m) e
      ∙ finished order s set stored output marks (fit s set stored (length output) (length marks) past) (few-roms s past.domain) can.bytes data-lines x o m h

  pub finishes : (r : Reading) (n : ℕ) → r ≡ reading_of order s set → n ≡ 2 ^ stored_pins s → Finishes r n
  finishes r n e h = subst (λ (x : Reading). Finishes x n) (sym e) (subst (Finishes (reading_of order s set)) (sym h) finishes_so)
