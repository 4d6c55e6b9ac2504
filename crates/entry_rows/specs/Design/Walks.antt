-- How far entries are read. Assumes nothing.
use Rattle.std.specs.Prelude.{ℕ, cond, ltb, Result, Ok, Err}
use Rattle.entry_words.specs.Design.Kept.{first_bad}

-- how far m entries are read: to the first that disagrees
abbrev pub walked_of : (ℕ → ℕ) → (ℕ → ℕ) → ℕ → ℕ → Result (Unit {0}) ℕ
walked_of t v words m =
    cond (ltb (first_bad t v words m) m) (Err (t (first_bad t v words m))) (Ok tt)
