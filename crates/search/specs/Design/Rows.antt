-- What takes its choices in rows. Assumes nothing.
use Rattle.std.specs.Prelude.{ℕ, zero, suc, ◌+◌, ◌*◌, ◌^◌, ◌≤◌, ◌≡◌, List, take, Option}
use Rattle.lists.specs.Tab.{tab}
use Rattle.search.specs.declared.Found.{Found}
use Rattle.search.specs.Search.{better_of}

-- the better of what was found and of k choices more, from c on, in a row
unfoldable pub best_onward : Option Found → (ℕ → Option ℕ) → ℕ → ℕ → Option Found
best_onward found trial c zero = found
best_onward found trial c (suc k) = better_of (best_onward found trial c k) (c + k) (trial k)

-- the choices of a row are few, and the table has what their low bits come to
pub record RowIn {A : Type 0} (low : ℕ → A) (lows : List A) (split row : ℕ) : Type 0 where
  pub short : split ≤ 6
  pub few : row * 2 ^ split + 2 ^ split ≤ 65536
  pub table : take (2 ^ split) lows ≡ tab (2 ^ split) low
