-- What the lines of a text are, by its line ends: the four rules leave one list for every text. Assumes nothing.
use Rattle.std.specs.Prelude.{ℕ, ◌-◌, ◌<◌, ◌≡◌, List, [], ◌∷◌, ◌++◌, ◌≢◌, length, get_or}
use Rattle.hex_read.specs.Lines.{lines_of}

-- no character of a line is LF
abbrev pub NoFeed : List ℕ → Type 0
NoFeed line = (k : ℕ) → k < length line → get_or line k 0 ≢ 10

pub record LinesLaw : Type 0 where
  -- 02 Slip 1 9: a text that has nothing has no line
  pub none : lines_of [] ≡ []
  -- 02 Slip 1 9: a text without a line end is one line
  pub last : (line : List ℕ) → NoFeed line → 0 < length line → lines_of line ≡ line ∷ []
  -- 02 Slip 1 2: LF ends a line that has no CR at its end
  pub feed : (line rest : List ℕ) → NoFeed line → get_or line (length line - 1) 0 ≢ 13 → lines_of (line ++ 10 ∷ rest) ≡ line ∷ lines_of rest
  -- 02 Slip 1 2: CR LF ends a line, whatever else it has but LF
  pub return_feed : (line rest : List ℕ) → NoFeed line → lines_of (line ++ 13 ∷ 10 ∷ rest) ≡ line ∷ lines_of rest
