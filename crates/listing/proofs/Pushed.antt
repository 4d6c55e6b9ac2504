-- What listing a pin behind others needs: of `tab`, in a loop that lists one pin a turn, and of what is listed under a test. Assumes nothing.
use mathlib.Core.Path.{◌≡◌, refl, ap}
use mathlib.Core.Bool.{Bool, true, false, cond}
use mathlib.Core.List.{List, [], ◌∷◌, ◌++◌, map, append-nil, append_assoc}
use Prim.Native.Nat.{ℕ, zero, suc, ◌+◌, ◌<◌}
use native.Mathlib.Nat.{add-zero}
use native.Mathlib.Numerals.{add-one}
use native.Mathlib.Omega.{arith}
use lib.ListN.{length, take, get_or, set, length-set, length-map, get_or-map}
use lib.Seq.{take-suc, take-suc-set, take-set-le}
use Rattle.lists.specs.Tab.{tab}
use Rattle.listing.specs.Design.Packed.{blank, listed_by}
use Rattle.listing.specs.declared.Listed.{Listed}
use Rattle.listing.specs.declared.packed.Packed.{Packed}

-- a packed pin is stored, and with it the listed one
map-set : {A B : Type 0} (f : A → B) (l : List A) (i : ℕ) (x : A) → map f (set l i x) ≡ set (map f l) i (f x)
map-set f [] i x = refl
map-set f (y ∷ l) zero x = refl
map-set {A} {B} f (y ∷ l) (suc i) x = ap (λ (t : List B). f y ∷ t) (map-set f l i x)

pub pushed : (ps : List Packed) (n : ℕ) (p : Packed) → n < length ps
    → take (n + 1) (map listed_by (set ps n p)) ≡ take n (map listed_by ps) ++ (listed_by p ∷ [])
pushed ps n p h =
    let l : n < length (map listed_by ps) = simp length-map h in
    rw (map-set, add-one, take-suc-set (map listed_by ps) n (listed_by p) l)

-- the list up to the next pin, which is read and unpacked
pub taken : (ps : List Packed) (k : ℕ) (l : Listed) → k < length ps → l ≡ listed_by (get_or ps k blank)
    → take (k + 1) (map listed_by ps) ≡ take k (map listed_by ps) ++ (l ∷ [])
taken ps k l h e =
    let n : k < length (map listed_by ps) = simp length-map h in
    rw (add-one, take-suc (map listed_by ps) k (listed_by blank) n, get_or-map listed_by ps k blank, e)

-- the invariant of a loop that lists pins behind others: k of them are in place, and n with those before
pub record Behind (base : List Listed) (f : ℕ → Listed) (ps : List Packed) (n k : ℕ) : Type 0 where
  pub long : length ps ≡ 30
  pub first : take n (map listed_by ps) ≡ base ++ tab k f

module _ {base : List Listed} {f : ℕ → Listed} {ps : List Packed} where
  -- before the first turn
  pub behind-none : {n m : ℕ} → length ps ≡ 30 → m ≡ n → take n (map listed_by ps) ≡ base → Behind base f ps m 0
  unfolding tab
  behind-none l h e = record { long = l; first = rw (h, append-nil) e }

  -- one turn: the pin k is stored
  pub behind-turn : {n m k : ℕ} (p : Packed) → Behind base f ps n k → n < 30 → m ≡ n + 1 → listed_by p ≡ f k → Behind base f (set ps n p) m (k + 1)
  unfolding tab
  behind-turn {n} {m} {k} p i h s e =
      record { long = simp length-set i.long; first = rw (s, pushed ps n p (omega arith), i.first, e, add-one, append_assoc) }

  -- the loop has counted to c
  pub behind_to : {n m k c : ℕ} → Behind base f ps n k → n ≡ m → k ≡ c → take m (map listed_by ps) ≡ base ++ tab c f
  behind_to i e h = rw (← e, ← h) i.first

-- a pin that is stored counts where the test holds; where it fails the next one takes its place
pub stored_if : (t : Bool) (n c : ℕ) (p : Packed) (q : Listed) (ps : List Packed) → n < length ps → c ≡ cond t 1 0 → listed_by p ≡ q
    → take (n + c) (map listed_by (set ps n p)) ≡ take n (map listed_by ps) ++ cond t (q ∷ []) []
stored_if true n c p q ps l e h = rw (e, pushed ps n p l, h)
stored_if false n c p q ps l e h = rw (e, add-zero, map-set, take-set-le n (map listed_by ps) n (listed_by p) (omega arith), append-nil)

-- where the test fails nothing is pushed
pub pushed_not : {A : Type 0} (t : Bool) (xs ls : List A) → t ≡ false → ls ≡ ls ++ cond t xs []
pushed_not t xs ls e = rw (e, append-nil)

-- `one` asks for x, and `both` for y too
module _ {A : Type 0} (one both : Bool) (x y : A) (ls : List A) where
  pub pushed_one : (p : A) (ms : List A) → one ≡ true → both ≡ false → p ≡ x → ms ≡ ls ++ (p ∷ []) → ms ≡ ls ++ cond one (x ∷ cond both (y ∷ []) []) []
  pushed_one p ms e f h i = rw (e, f, i, h)

  pub pushed_both : (p q : A) (ms ns : List A) → one ≡ true → both ≡ true → p ≡ x → ms ≡ ls ++ (p ∷ []) → q ≡ y → ns ≡ ms ++ (q ∷ [])
      → ns ≡ ls ++ cond one (x ∷ cond both (y ∷ []) []) []
  pushed_both p q ms ns e f h i j k = rw (e, f, k, i, h, j, append_assoc)
