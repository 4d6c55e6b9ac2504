-- The choices taken in rows, by a search or by whatever else takes them in turn. Assumes nothing.
use Rattle.std.specs.Prelude.{Option}
use mathlib.Core.Path.{◌≡◌, refl, sym, ◌∙◌}
use Prim.Native.Nat.{ℕ, zero, suc, ◌+◌, ◌*◌, ◌%◌, ◌^◌, ◌-◌, ◌≤◌, ◌<◌}
use native.Mathlib.Nat.{add-zero, add-suc, le_trans, mul-le-mul_right, suc-mul}
use native.Mathlib.Numerals.{add-one}
use native.Mathlib.Omega.{arith}
use lib.Pow.{shl_exact, pow_mono, pow-add}
use Rattle.search.specs.declared.Found.{Found}
use Rattle.search.specs.Search.{better_of, best}
use Rattle.search.specs.Design.Rows.{best_onward}

-- one turn of a loop over a row
pub onward-turn : (before : Option Found) (row : ℕ → Option ℕ) (c k : ℕ) (found later : Option Found) (t : Option ℕ) → found ≡ best_onward before row c k → t ≡ row k
    → later ≡ better_of found (c + k) t → later ≡ best_onward before row c (k + 1)
unfolding best_onward
onward-turn before row c k found later t e h i = rw (i, e, h, add-one)

-- a row that the choices of 6 bits make
pub row-short : (k : ℕ) → k ≤ 6 → 2 ^ k ≤ 64
row-short k h = pow_mono h

-- row << k in 32 bits, a row below those that b choice bits make
pub row_first : (row rows b k : ℕ) → row < rows → rows ≡ 2 ^ (b - k) → k ≤ b → b ≤ 16 → (row * 2 ^ k) % 2 ^ 32 ≡ row * 2 ^ k
row_first row rows b k l e h i = shl_exact (b - k) k 32 (rw e at l) (omega arith)

-- the next row begins where a row ends
pub next_row : (row n : ℕ) → row * n + n ≡ (row + 1) * n
next_row row n = rw (add-one, suc-mul)

-- all the rows
pub all_rows : (b k : ℕ) → k ≤ b → 2 ^ (b - k) * 2 ^ k ≡ 2 ^ b
all_rows b k h = let e : (b - k) + k ≡ b = omega arith in sym (pow-add 2 (b - k) k) ∙ rw e

pub row_within : (row b k : ℕ) → k ≤ b → row < 2 ^ (b - k) → row * 2 ^ k + 2 ^ k ≤ 2 ^ b
row_within row b k h l = rw (next_row, add-one, ← all_rows b k h) (mul-le-mul_right (2 ^ k) l)

-- a row's choices are below 2^16
pub row_fits : (row rows b k first count : ℕ) → row < rows → rows ≡ 2 ^ (b - k) → k ≤ b → k ≤ 6 → b ≤ 16 → first ≡ row * 2 ^ k → count ≡ 2 ^ k
    → (count ≤ 64) × (first + count ≤ 65536)
row_fits row rows b k first count l e h i j f g =
    (rw g (row-short k i), rw (f, g) (le_trans (row_within row b k h (rw e at l)) (pow_mono j)))

-- whatever takes the choices in turn: `whole k` is what those below k come to, `step` adds one, and `more q` is the same after q
-- choices of a row
module _ {S T : Type 0} (step : S → ℕ → T → S) (choice : ℕ → T) (whole : ℕ → S) (grows : (k : ℕ) → whole (suc k) ≡ step (whole k) k (choice k)) where
  module _ (each : ℕ → T) (more : ℕ → S) (c : ℕ) (from : more 0 ≡ whole c) (goes : (q : ℕ) → more (suc q) ≡ step (more q) (c + q) (each q)) where
    -- the choices below c, then k more in a row
    onward : (k : ℕ) → ((q : ℕ) → q < k → each q ≡ choice (c + q)) → more k ≡ whole (c + k)
    onward zero h = rw add-zero from
    onward (suc k) h = rw (goes k, onward k (λ q l. h q (omega arith)), h k (omega arith), add-suc, grows (c + k))

  -- one turn of a loop over the rows
  pub row_added : (each : ℕ → T) (more : ℕ → S) (row k first count : ℕ) (later : S) → first ≡ row * 2 ^ k → count ≡ 2 ^ k → more 0 ≡ whole (row * 2 ^ k)
      → ((q : ℕ) → more (suc q) ≡ step (more q) (first + q) (each q)) → ((q : ℕ) → q < 2 ^ k → each q ≡ choice (row * 2 ^ k + q)) → later ≡ more count
      → later ≡ whole ((row + 1) * 2 ^ k)
  row_added each more row k first count later f g from goes h i = rw (i, g, ← next_row) (onward each more (row * 2 ^ k) from (rw f at goes) (2 ^ k) h)

-- and its end
pub rows_done : {S : Type 0} (whole : ℕ → S) (row rows b k : ℕ) (state : S) → row ≡ rows → rows ≡ 2 ^ (b - k) → k ≤ b → state ≡ whole (row * 2 ^ k) → state ≡ whole (2 ^ b)
rows_done whole row rows b k state e f h i = rw (e, f, all_rows b k h) at i

-- one turn of a search for the best
pub rows_turn : (trial each : ℕ → Option ℕ) (row k first count : ℕ) (found later : Option Found) → first ≡ row * 2 ^ k → count ≡ 2 ^ k
    → ((q : ℕ) → q < 2 ^ k → each q ≡ trial (row * 2 ^ k + q)) → found ≡ best trial (row * 2 ^ k) → later ≡ best_onward found each first count
    → later ≡ best trial ((row + 1) * 2 ^ k)
unfolding best best_onward
rows_turn trial each row k first count found later f g h e i = row_added better_of trial (best trial) (λ q. refl) each (best_onward found each first) row k first count later f g e (λ q. refl) h i
