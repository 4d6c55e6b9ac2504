-- What the loops of a case and of an answer keep. Assumes nothing.
use mathlib.Core.Path.{◌≡◌, refl}
use mathlib.Core.Bool.{Bool, true, false, ◌&&◌}
use mathlib.Core.List.{List}
use Prim.Native.Nat.{ℕ, ◌+◌, ◌≤◌, ◌<◌}
use native.Mathlib.Numerals.{add-one}
use lib.ListN.{length, get_or, set}
use borrow.Author.Tests.{lt-ltb, le-ltb}
use Rattle.lists.specs.Each.{each}
use Rattle.case_numbers.specs.Answer.{Written, written, put_to, put_all}

-- a test, and then each of so many: before the first turn, and one turn
pub tested_none : (a : Bool) (p : ℕ → Bool) → a ≡ a && each 0 p
unfolding each
tested_none true p = refl
tested_none false p = refl

pub tested_turn : (a : Bool) (p : ℕ → Bool) (k : ℕ) (ok : Bool) → ok ≡ a && each k p → ok && p k ≡ a && each (k + 1) p
unfolding each
tested_turn true p k ok e = rw (e, add-one)
tested_turn false p k ok e = rw e

-- numbers written one after the other
pub put_none : (w : Written) (xs : List ℕ) → w ≡ put_all 0 w xs
unfolding put_all
put_none w xs = refl

pub put_turn : (w v u : Written) (xs : List ℕ) (k x : ℕ) → v ≡ put_all k w xs → x ≡ get_or xs k 0 → u ≡ put_to v x → u ≡ put_all (k + 1) w xs
unfolding put_all
put_turn w v u xs k x e f g = rw (g, f, e, add-one)

-- a number that fits, and one that does not
pub put_fits : (l : List ℕ) (at x : ℕ) → at < length l → written (set l at x) (at + 1) ≡ put_to (written l at) x
unfolding put_to
put_fits l at x h = rw (lt-ltb at (length l) h)

pub put_full : (l : List ℕ) (at x : ℕ) → length l ≤ at → written l at ≡ put_to (written l at) x
unfolding put_to
put_full l at x h = rw (le-ltb at (length l) h)
