-- A record stored part by part: each part is copied over what stands behind the parts before it. Assumes nothing.
use mathlib.Core.Path.{◌≡◌, refl}
use mathlib.Core.Bool.{false}
use mathlib.Core.List.{List, append_assoc, append-nil, ◌++◌}
use Prim.Native.Nat.{ℕ, ◌+◌, ◌-◌, ◌≤◌, ◌<◌}
use native.Mathlib.Omega.{arith}
use borrow.Author.Tests.{ne_eqb}
use borrow.Rule.Slice.PartMut.{put_mid}
use lib.Dec.{eqb}
use lib.ListN.{length, take, drop, get_or, length-append, length-take, length-drop, drop_of_length-le}
use Rattle.lists.specs.Tab.{tab}
use Rattle.lists.proofs.Tab.{tab_is}
use lib.Seq.{take_at, drop_at, take_all, drop-drop}

-- what stands from a on holds the part
pub room : (part now : List ℕ) (a k : ℕ) → length part ≡ k → a + k ≤ length now → length part ≤ length (take (length now - a) (drop a now))
room part now a k e h = simp (length-take, length-drop) (omega arith)

module _ (front part old now lent : List ℕ) (a k : ℕ) (ea : length front ≡ a) (ek : length part ≡ k) (h : a + k ≤ length old)
    (e : now ≡ front ++ drop a old)
    (el : lent ≡ part ++ drop (length part) (take (length now - a) (drop a now))) where
  same_length : length now ≡ length old
  same_length = rw (e, length-append, ea, length-drop) (omega arith)

  behind : drop a now ≡ drop a old
  behind = rw (e, drop_at front (drop a old) a ea)

  before : take a now ≡ front
  before = rw (e, take_at front (drop a old) a ea)

  -- a part copied behind a front that has a bytes
  pub next_part : put_mid a (length now - a) now lent ≡ (front ++ part) ++ drop (a + k) old
  next_part =
      let all : take (length old - a) (drop a old) ≡ drop a old = take_all (length old - a) (drop a old) (simp length-drop (omega arith)) in
      let none = drop_of_length-le (drop a old) {i = length old - a} (simp length-drop (omega arith)) in
      rw (el, before, behind, same_length, all, none, ek, drop-drop, append-nil) (simp append_assoc)

-- a record of three parts, each copied behind those before it: one, two and three are what the copies left of the bytes lent to them
module _ (h g t old head one two three : List ℕ) (a b k : ℕ) (ea : length h ≡ a) (eb : length g ≡ b) (ek : length t ≡ k)
    (room : a + b + k ≤ length old) (eh : head ≡ h)
    (e1 : one ≡ head ++ drop (length head) old)
    (e2 : two ≡ g ++ drop (length g) (take (length one - a) (drop a one))) where
  abbrev both : List ℕ
  both = put_mid a (length one - a) one two

  heads : one ≡ h ++ drop a old
  heads = rw (eh, ea) at e1

  boths : both ≡ (h ++ g) ++ drop (a + b) old
  boths = next_part h g old one two a b ea eb (omega arith) heads e2

  pub three_parts : three ≡ t ++ drop (length t) (take (length both - (a + b)) (drop (a + b) both))
      → put_mid (a + b) (length both - (a + b)) both three ≡ (h ++ g ++ t) ++ drop (a + b + k) old
  three_parts e3 = next_part (h ++ g) t old both three (a + b) k (rw (length-append, ea, eb)) ek room boths e3

-- an array as it is, and read entry by entry
pub array_is : {A : Type 0} (z : A) (l : List A) (n : ℕ) → length l ≡ n → tab n (λ k. get_or l k z) ≡ l
array_is z l n e = tab_is (λ k. get_or l k z) l z n e (λ j h. refl)

-- a number below 255 is not the byte for none
pub not_none : {x : ℕ} → x < 255 → eqb x 255 ≡ false
not_none {x} h = ne_eqb x 255 (λ e. omega arith)
