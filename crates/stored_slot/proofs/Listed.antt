-- Reads of lists below their length, and what a loop that counts a map's entries needs of `listed`. Assumes nothing.
use mathlib.Core.Path.{◌≡◌, refl}
use mathlib.Core.Bool.{Bool, true, false, cond, not, ◌&&◌}
use mathlib.Core.List.{List, [], ◌∷◌}
use Prim.Native.Nat.{ℕ, zero, suc, ◌+◌, ◌≤◌, ◌<◌}
use native.Mathlib.Nat.{le_of_suc-le-suc}
use native.Mathlib.Numerals.{add-one}
use native.Mathlib.Omega.{arith}
use lib.Dec.{eqb}
use lib.ListN.{length, get_or}
use Rattle.stored_slot.specs.Stored.{map_lines}

-- below the length the default does not count
pub get_d_any : {A : Type 0} (l : List A) (k : ℕ) (a b : A) → k < length l → get_or l k a ≡ get_or l k b
get_d_any [] k a b h = absurd (omega arith)
get_d_any (x ∷ l) zero a b h = refl
get_d_any (x ∷ l) (suc k) a b h = get_d_any l k a b (le_of_suc-le-suc h)

pub listed-none : (l : List ℕ) → 0 ≡ map_lines 0 l
unfolding map_lines
listed-none l = refl

pub listed-turn : (l : List ℕ) (k n g m : ℕ) → n ≡ map_lines k l → g ≡ get_or l k 255 → m ≡ cond (eqb n k && not (eqb g 255)) (k + 1) n
    → m ≡ map_lines (k + 1) l
unfolding map_lines
listed-turn l k n g m e h i = rw (i, h, e, add-one)

one_more : (b : Bool) (n x : ℕ) → x ≤ n → cond b (suc n) x ≤ suc n
one_more true n x h = omega arith
one_more false n x h = omega arith

-- no more than there are
pub listed-most : (n : ℕ) (l : List ℕ) → map_lines n l ≤ n
unfolding map_lines
listed-most zero l = omega arith
listed-most (suc n) l = one_more (eqb (map_lines n l) n && not (eqb (get_or l n 255) 255)) n (map_lines n l) (listed-most n l)
