-- What a loop that fills an array entry by entry needs of `tab`, and when a list is a `tab`. Assumes nothing.
use mathlib.Core.Path.{◌≡◌, refl, sym, ◌∙◌, ap}
use mathlib.Core.Bool.{Bool, true, false}
use mathlib.Core.List.{List, [], ◌∷◌}
use mathlib.Core.Logic.{inl, inr}
use Prim.Native.Nat.{ℕ, zero, suc, ◌+◌, ◌-◌, ◌≤◌, ◌<◌}
use native.Mathlib.Numerals.{add-one}
use native.Mathlib.Omega.{arith}
use native.Mathlib.Nat.{le_of_suc-le-suc, eq-or-lt_of_le}
use lib.Dec.{ltb}
use lib.ListN.{length, take, drop, get_or, set, replicate, length-set, length-append, length-replicate, length-take, length-drop, get_or-append}
use Rattle.std.proofs.lemmas.List.{get_or-drop}
use lib.Seq.{take-suc-set, take_all, take-suc, get_or_at, get_or-take, get_or-set_other}
use borrow.Author.Tests.{ltb-true, ltb-false}
use Rattle.lists.specs.Tab.{tab, joined}

-- the loop's invariant: the first k of n entries are in place
pub record Filled {A : Type 0} (n : ℕ) (f : ℕ → A) (out : List A) (k : ℕ) : Type 0 where
  pub within : k ≤ n
  pub long : length out ≡ n
  pub first : take k out ≡ tab k f

module _ {A : Type 0} {n : ℕ} {f : ℕ → A} {out : List A} where
  -- before the first turn
  pub filled_none : length out ≡ n → Filled n f out 0
  unfolding tab
  filled_none l = record { within = omega arith; long = l; first = refl }

  -- one turn: the entry k is stored
  pub filled_turn : {k : ℕ} {v : A} → Filled n f out k → k < n → v ≡ f k → Filled n f (set out k v) (k + 1)
  unfolding tab
  filled_turn {k} i h e =
      let l : k < length out = omega arith in
      record { within = omega arith; long = simp length-set i.long; first = rw (add-one, take-suc-set, i.first, e) }

  -- the array is full
  pub filled : {k : ℕ} → Filled n f out k → n ≤ k → out ≡ tab n f
  filled {k} i h =
      let e : k ≡ n = omega arith in
      let l : length out ≤ n = omega arith in
      rw (e, take_all n out l) at i.first

module _ {A : Type 0} (f : ℕ → A) (l : List A) (z : A) where
  tab-take : (k : ℕ) → k ≤ length l → ((j : ℕ) → j < k → f j ≡ get_or l j z) → tab k f ≡ take k l
  unfolding tab
  tab-take zero h e = refl
  tab-take (suc k) h e = rw (tab-take k (omega arith) (λ j q. e j (omega arith)), e k (omega arith), take-suc l k z (omega arith))

  -- the list whose entries are f's
  pub tab_is : (n : ℕ) → length l ≡ n → ((j : ℕ) → j < n → f j ≡ get_or l j z) → tab n f ≡ l
  tab_is n h e = tab-take n (omega arith) e ∙ take_all n l (omega arith)

module _ {A : Type 0} (f : ℕ → A) where
  pub tab-length : (n : ℕ) → length (tab n f) ≡ n
  unfolding tab
  tab-length zero = refl
  tab-length (suc n) = simp length-append (omega (arith, tab-length n))

  -- an entry below the count
  pub get_or-tab : (n k : ℕ) (z : A) → k < n → get_or (tab n f) k z ≡ f k
  unfolding tab
  get_or-tab zero k z h = absurd (omega arith)
  get_or-tab (suc n) k z h =
      elim (eq-or-lt_of_le (le_of_suc-le-suc h)) [
        | inl e ↦ rw e (get_or_at (tab n f) (f n) [] z n (tab-length n))
        | inr l ↦ get_or-append (tab n f) (f n ∷ []) z k (rw (tab-length n) l) ∙ get_or-tab n k z l
      ]

-- the part of a list from p to e, entry by entry
pub tab_part : (l : List ℕ) (p e n : ℕ) → e ≡ p + n → e ≤ length l → take (e - p) (drop p l) ≡ tab n (λ k. get_or l (p + k) 0)
tab_part l p e n q h =
    let m : e - p ≡ n = omega arith in
    rw m (sym (tab_is (λ k. get_or l (p + k) 0) (take n (drop p l)) 0 n (simp (length-take, length-drop) (omega arith))
    (λ j q. sym (get_or-take n (drop p l) j 0 q ∙ get_or-drop p l j 0))))

-- two fillings that agree below the count
pub tab_cong : {A : Type 0} (f g : ℕ → A) (n : ℕ) → ((k : ℕ) → k < n → f k ≡ g k) → tab n f ≡ tab n g
unfolding tab
tab_cong f g zero h = refl
tab_cong f g (suc n) h = rw (tab_cong f g n (λ k l. h k (omega arith)), h n (omega arith))

-- the same of lists one after the other
pub joined_cong : {A : Type 0} (n : ℕ) (f g : ℕ → List A) → ((k : ℕ) → k < n → f k ≡ g k) → joined n f ≡ joined n g
unfolding joined
joined_cong zero f g h = refl
joined_cong (suc n) f g h = rw (joined_cong n f g (λ k l. h k (omega arith)), h n (omega arith))

-- an entry of a list that begins with a filling
pub get_or-begins : {A : Type 0} (f : ℕ → A) (l : List A) (n k : ℕ) (z : A) → take n l ≡ tab n f → k < n → get_or l k z ≡ f k
get_or-begins {A} f l n k z e h = sym (get_or-take n l k z h) ∙ ap (λ (x : List A). get_or x k z) e ∙ get_or-tab f n k z h

-- the invariant of a loop that ends before the array is full: past the first k entries each is z
pub record Begun {A : Type 0} (n : ℕ) (f : ℕ → A) (z : A) (out : List A) (k : ℕ) : Type 0 where
  pub begun : Filled n f out k
  pub blank : (j : ℕ) → k ≤ j → get_or out j z ≡ z

module _ {A : Type 0} {n : ℕ} {f : ℕ → A} {z : A} where
  pub begun_none : Begun n f z (replicate n z) 0
  begun_none = record { begun = filled_none (length-replicate n z); blank = λ j h. all-blank n j }
    where
      all-blank : (n j : ℕ) → get_or (replicate n z) j z ≡ z
      all-blank zero j = refl
      all-blank (suc n) zero = refl
      all-blank (suc n) (suc j) = all-blank n j

  pub begun_turn : {out : List A} {k : ℕ} {v : A} → Begun n f z out k → k < n → v ≡ f k → Begun n f z (set out k v) (k + 1)
  begun_turn {out} {k} {v} i h e = record {
    begun = filled_turn i.begun h e;
    blank = λ j l. get_or-set_other out k j v z (λ q. absurd (omega arith)) ∙ i.blank j (omega arith);
  }

  -- f is z from k on
  pub begun_all : {out : List A} {k : ℕ} → Begun n f z out k → ((j : ℕ) → k ≤ j → f j ≡ z) → out ≡ tab n f
  begun_all {out} {k} i past = sym (tab_is f out z n i.begun.long (λ j h. by j (ltb j k) refl))
    where
      by : (j : ℕ) (t : Bool) → ltb j k ≡ t → f j ≡ get_or out j z
      by j true e = sym (get_or-begins f out k j z i.begun.first (ltb-true j k e))
      by j false e = past j (ltb-false j k e) ∙ sym (i.blank j (ltb-false j k e))
