-- The first value told of each word, kept: entry i is for word t i and says v i, the entries being read in rising order. What an
-- entry is for, and what it says, is given. Assumes nothing.
use Rattle.std.specs.Prelude.{ℕ, Bool, cond, not, ◌&&◌, List, ltb, eqb}
use Rattle.lists.specs.Tab.{tab}
use Rattle.lists.specs.First.{first_where}
use Rattle.words.specs.Words.{words_bytes}
use Rattle.entry_words.specs.declared.Outcome.{Outcome}
use Rattle.entry_words.specs.declared.Outcome.TheVariants.{Whole, Disagrees, Missing}

-- the first entry before m that is for word f
abbrev pub first_at : (ℕ → ℕ) → ℕ → ℕ → ℕ
first_at t f m = first_where m (λ i. eqb (t i) f)

abbrev pub told : (ℕ → ℕ) → ℕ → ℕ → Bool
told t f m = ltb (first_at t f m) m

-- what the buffers hold of word f after m entries: its mark, its value
abbrev pub mark_after : (ℕ → ℕ) → ℕ → ℕ → ℕ
mark_after t m f = cond (told t f m) 1 0

-- a word's value is what the first entry for it says
abbrev pub value_after : (ℕ → ℕ) → (ℕ → ℕ) → ℕ → ℕ → ℕ
value_after t v m f = cond (told t f m) (v (first_at t f m)) 0

-- of all words
abbrev pub marks_after : (ℕ → ℕ) → ℕ → ℕ → List ℕ
marks_after t words m = tab words (mark_after t m)

abbrev pub output_after : ℕ → (ℕ → ℕ) → (ℕ → ℕ) → ℕ → ℕ → List ℕ
output_after w t v words m = words_bytes w (value_after t v m) words

-- entry i is for a word that has a value, and says another
abbrev pub disagrees : (ℕ → ℕ) → (ℕ → ℕ) → ℕ → ℕ → Bool
disagrees t v words i = ltb (t i) words && (told t (t i) i && not (eqb (v i) (v (first_at t (t i) i))))

-- of several entries that disagree the one of lowest index answers
abbrev pub first_bad : (ℕ → ℕ) → (ℕ → ℕ) → ℕ → ℕ → ℕ
first_bad t v words m = first_where m (disagrees t v words)

-- the lowest word that no entry is for
abbrev pub first_missing : (ℕ → ℕ) → ℕ → ℕ → ℕ
first_missing t words m = first_where words (λ f. not (told t f m))

-- what m entries come to, for the words below a number
unfoldable pub outcome_of : (ℕ → ℕ) → (ℕ → ℕ) → ℕ → ℕ → Outcome
outcome_of t v words m =
    cond (ltb (first_bad t v words m) m) (Disagrees (t (first_bad t v words m)))
    (cond (ltb (first_missing t words m) words) (Missing (first_missing t words m)) Whole)
