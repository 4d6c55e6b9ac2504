-- What an entry is for, and what it says: counted through all ROMs, and ROM by ROM. Assumes nothing.
use Rattle.std.specs.Prelude.{Option, Some, None}
use mathlib.Core.Path.{◌≡◌, refl, sym, ◌∙◌, ap}
use mathlib.Core.Bool.{Bool, true, false, cond}
use mathlib.Core.List.{List}
use Prim.Native.Nat.{ℕ, ◌+◌, ◌^◌, ◌<◌}
use native.Mathlib.Omega.{arith}
use lib.Dec.{ltb, eqb}
use borrow.Author.Tests.{ltb-true, lt-ltb, eqb-true, eq-eqb}
use Rattle.slot.specs.declared.description.ChipSetType.{ChipSetType}
use Rattle.picks.specs.Picks.{chips_fit}
use Rattle.entry_words.specs.Design.Kept.{first_at}
use Rattle.lists.proofs.First.{first_passes, first_cong}
use Rattle.stored_slot.specs.Stored.{free, stored_pins}
use Rattle.unscramble.specs.Words.{rom_picked, address_at, value_at, serves}
use Rattle.stored_slot.specs.Words.{rom_words, words_before, all_words}
use Rattle.unscramble.specs.Recovered.{first_for, kept_value}
use Rattle.unscramble.proofs.WordAt.{word_of, word_at, said_at}
use Rattle.stored_slot.specs.declared.stored.StoredSlot.{StoredSlot}
use Rattle.unscramble.proofs.Serves.{picked-there, serves-free, serves-picks, serves-address, serves-counted, serves_is}
use Rattle.unscramble.proofs.Flat.{Flat, flat_counted, flat_one}

-- two tests that pass together
same_test : (a b : Bool) → (a ≡ true → b ≡ true) → (b ≡ true → a ≡ true) → a ≡ b
same_test true b h g = sym (h refl)
same_test false true h g = g refl
same_test false false h g = refl

module _ (s : StoredSlot) (set : ChipSetType) where
  -- an entry that is for a word is for one of a ROM
  in_rom : (rom i : ℕ) (b : Bool) → ltb (address_at s rom i) (rom_words s rom) ≡ b
      → cond b (words_before s rom + address_at s rom i) (all_words s) < all_words s → address_at s rom i < rom_words s rom
  in_rom rom i true e l = ltb-true (address_at s rom i) (rom_words s rom) e
  in_rom rom i false e l = absurd (omega arith)

  entry_case : (i : ℕ) (b : Bool) (p : Option ℕ) → free s i ≡ b → rom_picked s set i ≡ p → cond b (word_of s p i) (all_words s) < all_words s
      → (rom : ℕ) × (serves s set rom (address_at s rom i) i ≡ true)
  entry_case i false p e g l = absurd (omega arith)
  entry_case i true None e g l = absurd (omega arith)
  entry_case i true (Some rom) e g l =
      (rom, serves_is s set rom (address_at s rom i) i e g refl (in_rom rom i (ltb (address_at s rom i) (rom_words s rom)) refl l))

  pub entry-serves : (i : ℕ) → word_at s set i < all_words s → (rom : ℕ) × (serves s set rom (address_at s rom i) i ≡ true)
  unfolding word_at
  entry-serves i l = entry_case i (free s i) (rom_picked s set i) refl refl l

  word_is : (rom n i : ℕ) → serves s set rom n i ≡ true → word_at s set i ≡ words_before s rom + n
  unfolding word_at
  word_is rom n i e =
      rw (serves-free s set rom n i e, serves-picks s set rom n i e, serves-address s set rom n i e, lt-ltb n (rom_words s rom) (serves-counted s set rom n i e))

  pub said_is : (stored : List ℕ) (rom n i : ℕ) → serves s set rom n i ≡ true → said_at s set stored i ≡ value_at s stored rom i
  unfolding said_at
  said_is stored rom n i e = rw (serves-picks s set rom n i e)

  module _ (fit : chips_fit set s.num_roms ≡ true) where
    pub served_word : (rom n i : ℕ) → serves s set rom n i ≡ true → Flat s (word_at s set i) rom n
    served_word rom n i e = record {
      there = picked-there s set fit rom i (serves-picks s set rom n i e);
      counted = serves-counted s set rom n i e;
      flat = word_is rom n i e;
    }

    word_served : (rom n i : ℕ) → Flat s (word_at s set i) rom n → serves s set rom n i ≡ true
    word_served rom n i w =
        let (r, e) = entry-serves i (flat_counted s (word_at s set i) rom n w) in
        let (p, q) = flat_one s (word_at s set i) r rom (address_at s r i) n (served_word r (address_at s r i) i e) w in
        ap (λ (x : ℕ). serves s set x n i) (sym p) ∙ ap (λ (x : ℕ). serves s set r x i) (sym q) ∙ e

    -- for word n of a ROM are the entries that are for that word of all
    pub serves_flat : (f rom n i : ℕ) → Flat s f rom n → serves s set rom n i ≡ eqb (word_at s set i) f
    serves_flat f rom n i w =
        same_test (serves s set rom n i) (eqb (word_at s set i) f)
        (λ e. eq-eqb (word_at s set i) f (word_is rom n i e ∙ sym w.flat))
        (λ e. word_served rom n i (record { there = w.there; counted = w.counted; flat = eqb-true (word_at s set i) f e ∙ w.flat }))

    pub first_flat : (f rom n m : ℕ) → Flat s f rom n → first_for s set rom n m ≡ first_at (word_at s set) f m
    first_flat f rom n m w = first_cong m _ _ (λ i l. serves_flat f rom n i w)

    -- the value that is kept of a word is what its first entry says
    pub kept_said : (stored : List ℕ) (f rom n : ℕ) → Flat s f rom n → first_at (word_at s set) f (2 ^ stored_pins s) < 2 ^ stored_pins s
        → said_at s set stored (first_at (word_at s set) f (2 ^ stored_pins s)) ≡ kept_value s set stored rom n
    kept_said stored f rom n w l =
        let e = first_flat f rom n (2 ^ stored_pins s) w in
        ap (said_at s set stored) (sym e) ∙ said_is stored rom n _ (first_passes (serves s set rom n) (2 ^ stored_pins s) (omega arith))
