-- A loop that takes the entries in turn: what the buffers hold of those passed, against what stood there at first. Assumes nothing.
use Rattle.std.specs.Prelude.{Ok, Err}
use mathlib.Core.Path.{◌≡◌, refl, sym, ◌∙◌, ap}
use mathlib.Core.Bool.{true, false}
use mathlib.Core.List.{List, ◌++◌}
use Prim.Native.Nat.{ℕ, suc, ◌*◌, ◌^◌, ◌≤◌, ◌<◌}
use lib.ListN.{length, drop}
use lib.Seq.{drop_at}
use Rattle.lists.proofs.Loops.{zero_one}
use Rattle.entry_words.specs.Design.Kept.{output_after, marks_after}
use Rattle.lent_buffers.specs.Design.Buffers.{kept, keep_word}
use Rattle.entry_words.specs.Design.Collected.{output_held, marks_held}
use Rattle.entry_rows.specs.Design.Walks.{walked_of}
use Rattle.entry_words.specs.declared.Reading.{Reading}
use Rattle.entry_words.specs.Design.Lent.{Room}
use Rattle.entry_rows.specs.Design.Held.{Held, Read}
use Rattle.entry_words.proofs.Cong.{output-length, marks-length}
use Rattle.entry_rows.proofs.Step.{step_skip, step_keep, step_bad}

-- an entry that is for a word f, and says x
pub record Entry (w words : ℕ) (t v : ℕ → ℕ) (output₀ marks₀ : List ℕ) (m : ℕ) (output marks : List ℕ) (f x : ℕ) : Type 0 where
  pub held : Held w words t v output₀ marks₀ m output marks
  pub room : words * w ≤ length output₀
  pub marks-room : words ≤ length marks₀
  pub few : (i : ℕ) → v i < 2 ^ (8 * w)
  pub for : f ≡ t m
  pub says : x ≡ v m
  pub below : f < words

-- what stands behind a front that was put before it
behind : (n : ℕ) (front old new : List ℕ) → length front ≡ n → new ≡ front ++ drop n old → drop n new ≡ drop n old
behind n front old new l e = ap (λ (x : List ℕ). drop n x) e ∙ drop_at front (drop n old) n l

pub never : (f : ℕ) → Err f ≡ Ok (tt {0}) → ⊥
never f e = zero_one cc

-- buffers as long as those with room have room
pub same-room : {r : Reading} {t v : ℕ → ℕ} {output₀ marks₀ output marks : List ℕ} {m : ℕ}
    → Held r.word_bytes r.words t v output₀ marks₀ m output marks → Room r output₀ marks₀ → Room r output marks
same-room h r = record { few = r.few; output-room = rw h.long r.output-room; marks-room = rw h.marks-long r.marks-room }

module _ {w words : ℕ} {t v : ℕ → ℕ} {output₀ marks₀ : List ℕ} {m : ℕ} {output marks : List ℕ} where
  module _ (h : Held w words t v output₀ marks₀ m output marks) where
    pub rest : drop (words * w) output ≡ drop (words * w) output₀
    rest = behind (words * w) (output_after w t v words m) output₀ output (output-length w t v words m) h.values

    pub marks-rest : drop words marks ≡ drop words marks₀
    marks-rest = behind words (marks_after t words m) marks₀ marks (marks-length t words m) h.told

    -- against what stands there now
    own : output ≡ output_held w t v words m output
    own = h.values ∙ ap (λ (x : List ℕ). output_after w t v words m ++ x) (sym rest)

    marks-own : marks ≡ marks_held t words m marks
    marks-own = h.told ∙ ap (λ (x : List ℕ). marks_after t words m ++ x) (sym marks-rest)

    pub held-own : Held w words t v output marks m output marks
    held-own = record { long = refl; marks-long = refl; through = h.through; values = own; told = marks-own }

    -- one entry more
    held_next : (n : ℕ) (output' marks' : List ℕ) → n ≡ suc m → length output' ≡ length output → length marks' ≡ length marks
        → (walked_of t v words (suc m) ≡ Ok tt) × (output' ≡ output_held w t v words (suc m) output) × (marks' ≡ marks_held t words (suc m) marks)
        → Held w words t v output₀ marks₀ n output' marks'
    held_next n output' marks' e l k s =
        rw e
        (record {
          long = l ∙ h.long;
          marks-long = k ∙ h.marks-long;
          through = s.0;
          values = s.1 ∙ ap (λ (x : List ℕ). output_after w t v words (suc m) ++ x) rest;
          told = s.2 ∙ ap (λ (x : List ℕ). marks_after t words (suc m) ++ x) marks-rest;
        })

    -- one that is for no word
    pub held_skip : (n f : ℕ) → n ≡ suc m → f ≡ t m → words ≤ f → Held w words t v output₀ marks₀ n output marks
    held_skip n f e g l = held_next n output marks e refl refl (step_skip w words m t v output marks (rw g at l) h.through own marks-own)

    -- the end
    pub held-done : (n : ℕ) → m ≡ n → Read w words t v n output₀ marks₀ (Ok tt) output marks
    held-done n e = record {
      answer = sym (rw e at h.through);
      rest = rest;
      marks-rest = marks-rest;
      values = λ _. rw e at h.values;
      told = λ _. rw e at h.told;
    }

    -- by other names
    pub held_same : (output' marks' : List ℕ) → output' ≡ output → marks' ≡ marks → Held w words t v output₀ marks₀ m output' marks'
    held_same output' marks' e f = rw (e, f) h

  -- an entry for a word: one that is kept, and one that disagrees
  module _ {f x : ℕ} (h : Entry w words t v output₀ marks₀ m output marks f x) (output' marks' : List ℕ) where
    below : t m < words
    below = rw h.for at h.below

    room : words * w ≤ length output
    room = rw h.held.long h.room

    marks-room : words ≤ length marks
    marks-room = rw h.held.marks-long h.marks-room

    pub held_keep : (n : ℕ) → n ≡ suc m → length output' ≡ length output → length marks' ≡ length marks
        → kept true output' marks' ≡ keep_word w f x output marks → Held w words t v output₀ marks₀ n output' marks'
    held_keep n e p q k =
        held_next h.held n output' marks' e p q
        (step_keep w words m t v output marks output' marks' below h.few room marks-room h.held.through (own h.held) (marks-own h.held) (rw (h.for, h.says) at k))

    pub held_bad : (n : ℕ) → m < n → kept false output' marks' ≡ keep_word w f x output marks → Read w words t v n output₀ marks₀ (Err f) output' marks'
    held_bad n b k =
        let s = step_bad w words m t v output marks output' marks' below h.few room marks-room h.held.through (own h.held) (marks-own h.held) (rw (h.for, h.says) at k) n b in
        record {
          answer = ap Err h.for ∙ sym s.0;
          rest = s.1 ∙ rest h.held;
          marks-rest = s.2 ∙ marks-rest h.held;
          values = λ e. absurd (never f e);
          told = λ e. absurd (never f e);
        }
