-- What the lent output and marks hold of a word. Assumes nothing.
use Rattle.std.specs.Prelude.{ℕ, ◌+◌, ◌*◌, ◌≤◌, ◌<◌, Bool, true, cond, List, ◌++◌, ◌∷◌, eqb, length, get_or, take, drop}
use Rattle.words.specs.Words.{bytes_of, word}

-- the answer of a call with both buffers
pub record Kept (A : Type 0) : Type 0 where
  pub answer : A
  pub output : List ℕ
  pub marks : List ℕ

abbrev pub kept : {A : Type 0} → A → List ℕ → List ℕ → Kept A
kept a o m = record { answer = a; output = o; marks = m }

-- word f has its bytes and its mark in the buffers
pub record WordIn (w f : ℕ) (output marks : List ℕ) : Type 0 where
  pub bytes : w ≤ 2
  pub mark : f < length marks
  pub room : f * w + w ≤ length output

-- a value of word f is kept where the word has no mark
abbrev pub keep_word : ℕ → ℕ → ℕ → List ℕ → List ℕ → Kept Bool
keep_word w f value output marks =
    cond (eqb (get_or marks f 0) 0)
    (kept true (take (f * w) output ++ bytes_of w value ++ drop (f * w + w) output) (take f marks ++ (1 ∷ drop (f + 1) marks)))
    (kept (eqb (word w output f) value) output marks)
