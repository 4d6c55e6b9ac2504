-- What the functions that write rows are given. Assumes nothing.
use Rattle.std.specs.Prelude.{ℕ, ◌≤◌, ◌<◌, List, get_or}
use Rattle.page_rows.specs.Rows.{no_role}

-- the role of each GPIO is one
abbrev pub RolesIn : List ℕ → Type 0
RolesIn roles = (g : ℕ) → g < 48 → get_or roles g 0 ≤ no_role
