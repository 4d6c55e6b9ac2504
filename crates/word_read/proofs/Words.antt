-- The words of one ROM more, and all words. Assumes nothing.
use mathlib.Core.Path.{◌≡◌, refl, sym, ◌∙◌, ap, subst}
use mathlib.Core.Bool.{Bool, true, false, cond, not, ◌&&◌}
use mathlib.Core.Logic.{inl, inr}
use mathlib.Core.List.{List, ◌++◌}
use Prim.Native.Nat.{ℕ, zero, suc, ◌+◌, ◌-◌, ◌*◌, ◌^◌, ◌≤◌, ◌<◌}
use native.Mathlib.Nat.{le_of_suc-le-suc, eq-or-lt_of_le, add-mul}
use native.Mathlib.Numerals.{add-one}
use native.Mathlib.Decide.{dec_lt}
use native.Mathlib.Omega.{arith}
use lib.Dec.{ltb, eqb}
use lib.ListN.{length, get_or, drop}
use lib.Pow.{pow_pos}
use lib.Seq.{drop-append-add, drop-drop}
use borrow.Author.Tests.{lt-ltb, le-ltb, ltb-true, eqb-true, eq-eqb}
use Rattle.lists.proofs.First.{first_one, first_found, first_passes}
use Rattle.words.specs.Words.{words_bytes, word}
use Rattle.words.proofs.Words.{words-length, words_cong, words-none}
use Rattle.words.proofs.Back.{word_of-words}
use Rattle.word_rows.specs.Design.Wrote.{Wrote}
use Rattle.entry_words.specs.Design.Kept.{first_at, told, value_after, disagrees, first_bad, first_missing, outcome_of}
use Rattle.entry_words.specs.Design.Reading.{ReadingIn, no_map, no_extent, rom_by, address_by, extent_by, word_by, value_by}
use Rattle.entry_words.specs.declared.Map.{Map}
use Rattle.entry_words.specs.declared.Extent.{Extent}
use Rattle.entry_words.specs.declared.Reading.{Reading}
use Rattle.entry_words.specs.declared.Outcome.TheVariants.{Whole}
use Rattle.entry_words.proofs.Bounds.{place, value_few}
use Rattle.entry_words.proofs.Whole.{disagrees-first}
use Rattle.rom_turns.specs.Design.Rom.{SameTurn, turn_start}
use Rattle.word_read.specs.Design.Ordered.{rom_value}
use Rattle.word_read.specs.Design.Words.{WordsRead, ReadIn, AllRead, words_of}
use Rattle.rom_turns.proofs.Turns.{first-turn}
use Rattle.word_read.proofs.Entries.{Placed, counted, rom, index, entry_lt, word-there, value_there, turn, turn_in, turn_is}

-- what stands past the words stays
pub written-rest : (w : ℕ) (g : ℕ → ℕ) (m n : ℕ) (old new : List ℕ) → new ≡ words_bytes w g m ++ drop (m * w) old → m ≤ n → drop (n * w) new ≡ drop (n * w) old
written-rest w g m n old new e l =
    let parts : n * w ≡ m * w + (n - m) * w = (let whole : m + (n - m) ≡ n = omega arith in sym (ap (λ (x : ℕ). x * w) whole) ∙ add-mul m (n - m) w) in
    rw (e, parts, ← words-length w g m, drop-append-add, words-length w g m, drop-drop)

-- the words that are read, held against the output as it is, and against an earlier one
pub read-own : {r : Reading} {stored : List ℕ} {n k m : ℕ} {old output : List ℕ} → WordsRead r stored n k m old output → WordsRead r stored n k m output output
read-own {r} {stored} {n} {k} {m} {old} {output} h = record {
  entry = h.entry;
  within = h.within;
  written =
      h.written
      ∙ ap (λ (x : List ℕ). words_bytes r.word_bytes (λ f. value_by r stored (h.entry f)) m ++ x) (sym (written-rest r.word_bytes _ m m old output h.written (omega arith)));
  stored_in = h.stored_in;
  for = h.for;
  all = h.all;
}

pub read-on : {r : Reading} {stored : List ℕ} {n k m : ℕ} {old output : List ℕ} (j d : ℕ) (new : List ℕ) → WordsRead r stored n k m old output
    → WordsRead r stored n j (m + d) output new → WordsRead r stored n j (m + d) old new
read-on {r} {stored} {n} {k} {m} {old} {output} j d new g h = record {
  entry = h.entry;
  within = h.within;
  written =
      h.written
      ∙ ap (λ (x : List ℕ). words_bytes r.word_bytes (λ f. value_by r stored (h.entry f)) (m + d) ++ x) (written-rest r.word_bytes _ m (m + d) old output g.written (omega arith));
  stored_in = h.stored_in;
  for = h.for;
  all = h.all;
}

pub read-rest : {r : Reading} {stored : List ℕ} {n k m : ℕ} {old output : List ℕ} → WordsRead r stored n k m old output
    → drop (r.words * r.word_bytes) output ≡ drop (r.words * r.word_bytes) old
read-rest {r} {stored} {n} {k} {m} {old} {output} h = written-rest r.word_bytes _ m r.words old output h.written h.within

-- over an output that is as long
pub read-long : {r : Reading} {stored output : List ℕ} {pins : ℕ} (o : List ℕ) → ReadIn r stored output pins → length o ≡ length output → ReadIn r stored o pins
read-long o h l = record { reading = h.reading; width = h.width; pins_in = h.pins_in; stored_in = h.stored_in; room = rw l h.room }

-- before the first ROM
pub read_none : (r : Reading) (stored : List ℕ) (n : ℕ) (output : List ℕ) → WordsRead r stored n 0 0 output output
read_none r stored n output = record {
  entry = λ f. 0;
  within = omega arith;
  written = words-none r.word_bytes _ output;
  stored_in = λ f l. absurd (omega arith);
  for = λ f l. absurd (omega arith);
  all = λ i l h. absurd (omega arith);
}

-- a ROM that has no words
pub read-empty : (r : Reading) (stored : List ℕ) (n k m : ℕ) (old output : List ℕ) → words_of r k ≡ 0 → WordsRead r stored n k m old output
    → WordsRead r stored n (k + 1) (m + words_of r k) old output
read-empty r stored n k m old output z h =
    let same : m + words_of r k ≡ m = omega arith in
    let more : WordsRead r stored n (k + 1) m old output = record {
      entry = h.entry;
      within = h.within;
      written = h.written;
      stored_in = h.stored_in;
      for = h.for;
      all = λ i l b c. elim (eq-or-lt_of_le (le_of_suc-le-suc (rw add-one at b))) [
        | inl e ↦ let few = (counted r i c).1 in absurd (omega (arith, rw e at few))
        | inr q ↦ h.all i l q c
      ];
    } in
    rw same more

-- the words of the k-th ROM, written by its first turn
module _ {r : Reading} {k b m pins : ℕ} {order : Map} (hr : ReadingIn r) (p : Placed r k b m pins order) {stored out new : List ℕ}
    (before : WordsRead r stored (2 ^ pins) k m out out)
    (wrote : Wrote r.word_bytes (λ a. rom_value (rom p) order.positions (get_or r.data_lines k no_map) stored ((rom p).first + a)) (rom p).start (rom p).words out new) where
  abbrev w : ℕ
  w = r.word_bytes

  abbrev words : ℕ
  words = words_of r k

  some : 0 < (rom p).turns
  some = pow_pos _

  entry : ℕ → ℕ
  entry f = cond (ltb f m) (before.entry f) (index p (turn_start (rom p) 0 + (f - m)))

  old_entry : (f : ℕ) → f < m → entry f ≡ before.entry f
  unfolding entry
  old_entry f l = rw (lt-ltb f m l)

  new_entry : (a : ℕ) → entry (m + a) ≡ index p (turn_start (rom p) 0 + a)
  unfolding entry
  new_entry a = let there : m + a - m ≡ a = omega arith in rw (le-ltb (m + a) m (omega arith), there)

  value : ℕ → ℕ
  value f = value_by r stored (entry f)

  rom-written : new ≡ words_bytes w value (m + words) ++ drop ((m + words) * w) out
  unfolding value
  rom-written =
      let wr = subst (λ x. Wrote w (λ a. rom_value (rom p) order.positions (get_or r.data_lines k no_map) stored ((rom p).first + a)) x words out new) p.suited.start wrote in
      wr value out
      (before.written ∙ ap (λ (x : List ℕ). x ++ drop (m * w) out) (words_cong w _ value m (λ f l. ap (value_by r stored) (sym (old_entry f l)))))
      (λ q l.
      ap (value_by r stored) (new_entry q)
      ∙ value_there p 0 q some l stored
      ∙ ap (λ (x : ℕ). rom_value (rom p) order.positions (get_or r.data_lines k no_map) stored (x + q)) (first-turn (rom p)))

  most : k < 5 → m + words ≤ r.words
  most l = omega (arith, hr.extents k l, p.suited.start)

  pub rom-rest : k < 5 → drop (r.words * w) new ≡ drop (r.words * w) out
  rom-rest l = written-rest w value (m + words) r.words out new rom-written (most l)

  -- a word stands as it is written
  stands : (a : ℕ) → a < words → word w new (m + a) ≡ value (m + a)
  unfolding value
  stands a l =
      ap (λ (x : List ℕ). word w x (m + a)) rom-written
      ∙ word_of-words w value (m + words) (drop ((m + words) * w) out) (m + a) (omega arith) (value_few hr stored (entry (m + a)))

  -- and the other turns say the same
  module _ (l5 : k < 5) (same : (c : ℕ) → 1 ≤ c → c < (rom p).turns
      → SameTurn (rom p) (λ a. rom_value (rom p) order.positions (get_or r.data_lines k no_map) stored (turn_start (rom p) c + a)) new (rom p).words) where
    agrees : (c a : ℕ) → c < (rom p).turns → a < words → value_by r stored (index p (turn_start (rom p) c + a)) ≡ value (m + a)
    unfolding value
    agrees zero a lc la = ap (value_by r stored) (sym (new_entry a))
    agrees (suc c) a lc la =
        value_there p (suc c) a lc la stored
        ∙ sym (same (suc c) (omega arith) lc a la)
        ∙ ap (λ (x : ℕ). word w new (x + a)) p.suited.start
        ∙ stands a la

    -- an entry of the ROM says what stands
    own-entry : (i : ℕ) → i < 2 ^ pins → rom_by r i ≡ k → word_by r i < r.words → (word_by r i < m + words) × (value_by r stored i ≡ value (word_by r i))
    own-entry i li there lw =
        let (free, short, word) = counted r i lw in
        let at_k : extent_by r i ≡ get_or r.extents k no_extent = ap (λ (x : ℕ). get_or r.extents x no_extent) there in
        let la : address_by r i < words = rw at_k at short in
        let is : word_by r i ≡ m + address_by r i = word ∙ ap (λ (x : Extent). x.start + address_by r i) at_k ∙ ap (λ (x : ℕ). x + address_by r i) p.suited.start in (
          rw is (omega arith),
          ap (value_by r stored) (turn_is p i li free there) ∙ agrees (turn p i li free there) (address_by r i) (turn_in p i li free there) la ∙ ap value (sym is),
        )

    pub rom-read : WordsRead r stored (2 ^ pins) (k + 1) (m + words) out new
    unfolding value
    rom-read = record {
      entry = entry;
      within = most l5;
      written = rom-written;
      stored_in = λ f l. elim (dec_lt f m) [
        | yes q ↦ rw (old_entry f q) (before.stored_in f q)
        | no q ↦ let whole : m + (f - m) ≡ f = omega arith in rw (sym (ap entry whole) ∙ new_entry (f - m)) (entry_lt p (turn_start (rom p) 0 + (f - m)))
      ];
      for = λ f l. elim (dec_lt f m) [
        | yes q ↦ ap (word_by r) (old_entry f q) ∙ before.for f q
        | no q ↦
            let whole : m + (f - m) ≡ f = omega arith in
            ap (word_by r) (sym (ap entry whole) ∙ new_entry (f - m)) ∙ word-there p 0 (f - m) some (omega arith) ∙ whole
      ];
      all = λ i li lr lw. elim (eq-or-lt_of_le (le_of_suc-le-suc (rw add-one at lr))) [
        | inl e ↦ own-entry i li e lw
        | inr q ↦
            let (b₁, v₁) = before.all i li q lw in
            (omega arith, v₁ ∙ ap (value_by r stored) (sym (old_entry (word_by r i) b₁)))
      ];
    }

-- all words are read: no entry disagrees, and no word is missing
module _ (t v : ℕ → ℕ) (words n : ℕ) (entry : ℕ → ℕ) (stored_in : (f : ℕ) → f < words → entry f < n) (for : (f : ℕ) → f < words → t (entry f) ≡ f)
    (all : (i : ℕ) → i < n → t i < words → v i ≡ v (entry (t i))) where
  told-all : (f : ℕ) → f < words → first_at t f n < n
  told-all f l = first_found (λ i. eqb (t i) f) n (entry f) (stored_in f l) (eq-eqb (t (entry f)) f (for f l))

  first_value : (f : ℕ) → f < words → v (first_at t f n) ≡ v (entry f)
  first_value f l =
      let x = first_at t f n in
      let is : t x ≡ f = eqb-true (t x) f (first_passes (λ i. eqb (t i) f) n (told-all f l)) in
      all x (told-all f l) (rw is l) ∙ ap (λ (y : ℕ). v (entry y)) is

  pub value_all : (f : ℕ) → f < words → value_after t v n f ≡ v (entry f)
  value_all f l = rw (lt-ltb (first_at t f n) n (told-all f l)) (first_value f l)

  none-case : (i : ℕ) → i < n → (b : Bool) → ltb (t i) words ≡ b → b && not (eqb (v i) (v (first_at t (t i) n))) ≡ false
  none-case i l true e =
      let lw = ltb-true (t i) words e in
      rw (eq-eqb (v i) (v (first_at t (t i) n)) (all i l lw ∙ sym (first_value (t i) lw)))
  none-case i l false e = refl

  none_bad : first_bad t v words n ≡ n
  none_bad =
      first_one (disagrees t v words) n n (record {
        within = omega arith;
        passes = λ q. absurd (omega arith);
        before = λ i l. disagrees-first t v words n i l ∙ none-case i l (ltb (t i) words) refl;
      })

  none-missing : first_missing t words n ≡ words
  none-missing =
      first_one (λ f. not (told t f n)) words words (record {
        within = omega arith;
        passes = λ q. absurd (omega arith);
        before = λ f l. rw (lt-ltb (first_at t f n) n (told-all f l));
      })

  pub whole-all : outcome_of t v words n ≡ Whole
  unfolding outcome_of
  whole-all = rw (none_bad, none-missing, le-ltb n n (omega arith), le-ltb words words (omega arith))

pub all_read : (r : Reading) (stored : List ℕ) (n m : ℕ) (old output : List ℕ) → ReadingIn r → m ≡ r.words → WordsRead r stored n 5 m old output → AllRead r stored n old output
all_read r stored n m old output hr e h₀ =
    let h : WordsRead r stored n 5 r.words old output = rw e at h₀ in
    let same : (i : ℕ) → i < n → word_by r i < r.words → value_by r stored i ≡ value_by r stored (h.entry (word_by r i)) = λ i l b. (h.all i l (place hr i) b).1 in
    record {
      whole = whole-all (word_by r) (value_by r stored) r.words n h.entry h.stored_in h.for same;
      written =
          h.written
          ∙ ap (λ (x : List ℕ). x ++ drop (r.words * r.word_bytes) old) (words_cong r.word_bytes _ _ r.words (λ f l.
          sym (value_all (word_by r) (value_by r stored) r.words n h.entry h.stored_in h.for same f l)));
    }
