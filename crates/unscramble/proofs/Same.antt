-- The entries read one by one, each for a word counted through all ROMs, come to what Recovered says. Assumes nothing.
use Rattle.std.specs.Prelude.{Option, Some, None}
use mathlib.Core.Path.{◌≡◌, refl, sym, ◌∙◌, ap}
use mathlib.Core.Bool.{Bool, true, false, cond, not, ◌&&◌}
use mathlib.Core.List.{List}
use Prim.Native.Nat.{ℕ, ◌+◌, ◌^◌, ◌≤◌, ◌<◌}
use native.Mathlib.Omega.{arith}
use lib.Dec.{ltb, eqb}
use lib.ListN.{replicate}
use borrow.Author.Tests.{ltb-true, ltb-false, lt-ltb, le-ltb, eq-eqb, ne_eqb}
use Rattle.slot.specs.declared.description.ChipSetType.{ChipSetType}
use Rattle.refusal.specs.declared.Refusal.{Refusal}
use Rattle.refusal.specs.declared.Refusal.TheVariants.{Inconsistent, Unserved}
use Rattle.refusal.specs.First.{or_else, fault_if}
use Rattle.picks.specs.Picks.{chips_fit}
use Rattle.entry_words.specs.Design.Kept.{first_at, told, value_after, marks_after, output_after, disagrees, first_bad, first_missing, outcome_of}
use Rattle.entry_words.specs.declared.Outcome.TheVariants.{Whole, Disagrees, Missing}
use Rattle.lists.proofs.First.{never_both, not_less, first-within, first_found}
use Rattle.lists.proofs.Loops.{zero_one}
use Rattle.entry_words.proofs.Whole.{disagrees-first, whole-told, whole-marks}
use Rattle.words.specs.declared.ByteOrder.{ByteOrder}
use Rattle.words.proofs.Words.{words_cong}
use Rattle.words.proofs.Turned.{turned_word, turned_words}
use Rattle.stored_slot.specs.Stored.{word_bytes, stored_pins}
use Rattle.unscramble.specs.Words.{rom_picked, address_at, value_at, serves}
use Rattle.stored_slot.specs.Words.{words_before, all_words}
use Rattle.unscramble.specs.Recovered.{kept_value, disagrees_for, inconsistent, unserved_in, unserved, recovered}
use Rattle.unscramble.specs.Design.Place.{word_rom, word_address, outcome_fault}
use Rattle.unscramble.proofs.WordAt.{word_at, said_at}
use Rattle.stored_slot.specs.declared.stored.StoredSlot.{StoredSlot}
use Rattle.unscramble.proofs.Serves.{serves-picks}
use Rattle.unscramble.proofs.Flat.{Flat, flat_of, flat_counted, flat_rom, flat_address}
use Rattle.unscramble.proofs.Entries.{entry-serves, said_is, served_word, first_flat, kept_said}
use Rattle.unscramble.proofs.Joined.{first-fault, faults_joined, words-joined}

-- at the count or not below it
at-end : (x n : ℕ) → x ≤ n → (b : Bool) → ltb x n ≡ b → eqb x n ≡ not b
at-end x n l true e = let h = ltb-true x n e in ne_eqb x n (λ q. omega arith)
at-end x n l false e = let h = ltb-false x n e in eq-eqb x n (omega arith)

module _ (s : StoredSlot) (set : ChipSetType) (stored : List ℕ) where
  abbrev entries : ℕ
  entries = 2 ^ stored_pins s

  abbrev t : ℕ → ℕ
  t = word_at s set

  abbrev v : ℕ → ℕ
  v = said_at s set stored

  abbrev bad : ℕ
  bad = first_bad t v (all_words s) entries

  abbrev missing : ℕ
  missing = first_missing t (all_words s) entries

  abbrev inconsistent_word : ℕ → Refusal
  inconsistent_word f = Inconsistent (word_rom s f) (word_address s f)

  abbrev unserved_word : ℕ → Refusal
  unserved_word f = Unserved (word_rom s f) (word_address s f)

  fault-case : (b c : Bool) (f g : ℕ)
      → outcome_fault s (cond b (Disagrees f) (cond c (Missing g) Whole)) ≡ or_else (fault_if b (inconsistent_word f)) (fault_if c (unserved_word g))
  fault-case true c f g = refl
  fault-case false true f g = refl
  fault-case false false f g = refl

  -- an entry that is for no word
  skipped : (i : ℕ) (why : Refusal) → (t i < all_words s → ⊥) → None ≡ fault_if (disagrees t v (all_words s) i) why
  skipped i why h = rw (le-ltb (t i) (all_words s) (not_less (t i) (all_words s) h))

  module _ (fit : chips_fit set s.num_roms ≡ true) where
    -- one that is for a word
    module _ (rom i : ℕ) (l : i < entries) (e : serves s set rom (address_at s rom i) i ≡ true) where
      its_word : Flat s (t i) rom (address_at s rom i)
      its_word = served_word s set fit rom (address_at s rom i) i e

      abbrev itself : ℕ → Bool
      itself k = eqb (t k) (t i)

      test_same : disagrees t v (all_words s) i ≡ not (eqb (value_at s stored rom i) (kept_value s set stored rom (address_at s rom i)))
      test_same =
          disagrees-first t v (all_words s) entries i l
          ∙ ap (λ (b : Bool). b && not (eqb (v i) (v (first_at t (t i) entries)))) (lt-ltb (t i) (all_words s) (flat_counted s (t i) rom (address_at s rom i) its_word))
          ∙ ap (λ (x : ℕ). not (eqb x (v (first_at t (t i) entries)))) (said_is s set stored rom (address_at s rom i) i e)
          ∙ ap (λ (x : ℕ). not (eqb (value_at s stored rom i) x))
          (kept_said s set fit stored (t i) rom (address_at s rom i) its_word (first_found itself entries i l (eq-eqb (t i) (t i) refl)))

      served_fault : fault_if (not (eqb (value_at s stored rom i) (kept_value s set stored rom (address_at s rom i)))) (Inconsistent rom (address_at s rom i))
          ≡ fault_if (disagrees t v (all_words s) i) (inconsistent_word (t i))
      served_fault =
          ap (λ (b : Bool). fault_if b (Inconsistent rom (address_at s rom i))) (sym test_same)
          ∙ ap (λ (r : ℕ). fault_if (disagrees t v (all_words s) i) (Inconsistent r (address_at s rom i))) (sym (flat_rom s (t i) rom (address_at s rom i) its_word))
          ∙ ap (λ (n : ℕ). fault_if (disagrees t v (all_words s) i) (Inconsistent (word_rom s (t i)) n)) (sym (flat_address s (t i) rom (address_at s rom i) its_word))

    by_test : (rom i : ℕ) → i < entries → rom_picked s set i ≡ Some rom → (b : Bool) → serves s set rom (address_at s rom i) i ≡ b
        → fault_if (b && not (eqb (value_at s stored rom i) (kept_value s set stored rom (address_at s rom i)))) (Inconsistent rom (address_at s rom i))
        ≡ fault_if (disagrees t v (all_words s) i) (inconsistent_word (t i))
    by_test rom i l g true e = served_fault rom i l e
    by_test rom i l g false e =
        skipped i (inconsistent_word (t i)) (λ h.
        let (r, q) = entry-serves s set i h in
        let p = serves-picks s set r (address_at s r i) i q in
        let same : r ≡ rom = cc in
        never_both (serves s set rom (address_at s rom i) i) (ap (λ (x : ℕ). serves s set x (address_at s x i) i) (sym same) ∙ q) e)

    by_rom : (i : ℕ) → i < entries → (p : Option ℕ) → rom_picked s set i ≡ p
        → disagrees_for s set stored i p ≡ fault_if (disagrees t v (all_words s) i) (inconsistent_word (t i))
    by_rom i l None g =
        skipped i (inconsistent_word (t i)) (λ h.
        let (r, q) = entry-serves s set i h in
        let p = serves-picks s set r (address_at s r i) i q in
        zero_one cc)
    by_rom i l (Some rom) g = by_test rom i l g (serves s set rom (address_at s rom i) i) refl

    inconsistent_is : inconsistent s set stored ≡ fault_if (ltb bad entries) (inconsistent_word (t bad))
    inconsistent_is =
        first-fault entries _ (disagrees t v (all_words s)) (λ i. inconsistent_word (t i)) (λ i l. by_rom i l (rom_picked s set i) refl)

    unserved-one : (f rom n : ℕ) → Flat s f rom n → unserved_in s set rom n ≡ fault_if (not (told t f entries)) (unserved_word f)
    unserved-one f rom n w =
        ap (λ (x : ℕ). fault_if (eqb x entries) (Unserved rom n)) (first_flat s set fit f rom n entries w)
        ∙ ap (λ (b : Bool). fault_if b (Unserved rom n)) (at-end (first_at t f entries) entries (first-within _ entries) (told t f entries) refl)
        ∙ ap (λ (r : ℕ). fault_if (not (told t f entries)) (Unserved r n)) (sym (flat_rom s f rom n w))
        ∙ ap (λ (m : ℕ). fault_if (not (told t f entries)) (Unserved (word_rom s f) m)) (sym (flat_address s f rom n w))

    unserved_is : unserved s set ≡ fault_if (ltb missing (all_words s)) (unserved_word missing)
    unserved_is =
        faults_joined s (λ f. fault_if (not (told t f entries)) (unserved_word f)) (unserved_in s set) s.num_roms (λ rom n l q.
        unserved-one (words_before s rom + n) rom n (flat_of s rom n l q))
        ∙ first-fault (all_words s) _ (λ f. not (told t f entries)) unserved_word (λ f l. refl)

    pub fault-same : outcome_fault s (outcome_of t v (all_words s) entries) ≡ or_else (inconsistent s set stored) (unserved s set)
    unfolding outcome_of
    fault-same =
        fault-case (ltb bad entries) (ltb missing (all_words s)) (t bad) missing
        ∙ ap (λ (f : Option Refusal). or_else f (fault_if (ltb missing (all_words s)) (unserved_word missing))) (sym inconsistent_is)
        ∙ ap (or_else (inconsistent s set stored)) (sym unserved_is)

    module _ (e : outcome_of t v (all_words s) entries ≡ Whole) where
      kept_value_lem : (f rom n : ℕ) → Flat s f rom n → kept_value s set stored rom n ≡ value_after t v entries f
      kept_value_lem f rom n w =
          let h = whole-told t v (all_words s) entries e f (flat_counted s f rom n w) in
          sym (ap (λ (b : Bool). cond b (v (first_at t f entries)) 0) h ∙ kept_said s set fit stored f rom n w (ltb-true (first_at t f entries) entries h))

      -- low byte first the words are turned, and so stand in the order of the dump
      turned_value : (order : ByteOrder) (f : ℕ) → f < all_words s
          → value_after t (λ i. turned_word order (word_bytes s) (v i)) entries f ≡ turned_word order (word_bytes s) (value_after t v entries f)
      turned_value order f l = rw (whole-told t v (all_words s) entries e f l)

      pub output-same : (order : ByteOrder)
          → output_after (word_bytes s) t (λ i. turned_word order (word_bytes s) (v i)) (all_words s) entries ≡ recovered order s set stored
      unfolding recovered
      output-same order =
          words_cong (word_bytes s) _ _ (all_words s) (turned_value order)
          ∙ turned_words order (word_bytes s) (value_after t v entries) (all_words s)
          ∙ sym (words-joined s order (word_bytes s) (value_after t v entries) (kept_value s set stored) s.num_roms (λ rom n l q.
          kept_value_lem (words_before s rom + n) rom n (flat_of s rom n l q)))

      pub marks-same : marks_after t (all_words s) entries ≡ replicate (all_words s) 1
      marks-same = whole-marks t v (all_words s) entries e
