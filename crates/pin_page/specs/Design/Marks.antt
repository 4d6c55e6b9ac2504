-- The first role of each GPIO, kept while the lines are gone through. Assumes nothing.
use Rattle.std.specs.Prelude.{ℕ, min, List, [], ◌∷◌, get_or, set}
use Rattle.pin_page.specs.Roles.{PageLine}

-- a line more: its GPIO keeps the lower of both roles. A GPIO past the list's end is none of it
abbrev pub marked : List ℕ → PageLine → List ℕ
marked roles l = set roles l.gpio (min l.role (get_or roles l.gpio 0))

unfoldable pub marked_all : List ℕ → List PageLine → List ℕ
marked_all roles [] = roles
marked_all roles (l ∷ ls) = marked_all (marked roles l) ls
