-- The tests of sameness pass just what is the same. Assumes nothing.
use Rattle.std.specs.Prelude.{Option, Some, None}
use mathlib.Core.Path.{◌≡◌, refl, sym, ◌∙◌, ap}
use mathlib.Core.Bool.{Bool, true, false, ◌&&◌}
use mathlib.Core.List.{List}
use Prim.Native.Nat.{ℕ, ◌<◌}
use lib.Dec.{eqb}
use lib.ListN.{get_or}
use borrow.Author.Tests.{eqb-true, eq-eqb}
use Rattle.lists.proofs.Bools.{and_left, and_right}
use Rattle.lists.proofs.Each.{each_all, each_at}
use Rattle.gpio.specs.declared.candidates.Candidates.{Candidates}
use Rattle.gpio.specs.declared.candidates.Candidates.TheVariants.{Absent, One, Two}
use Rattle.slot.specs.declared.description.ChipSetType.{ChipSetType}
use Rattle.slot.specs.declared.description.ChipSetType.TheVariants.{Single, Banked, Multi}
use Rattle.stored_slot.specs.declared.stored.SlotType.{SlotType}
use Rattle.stored_slot.specs.declared.stored.SlotType.TheVariants.{Unknown, Plugin, Roms}
use Rattle.premises.specs.Same.{same_candidates, same_set, is_roms, is_at, same_to}
use Rattle.premises.proofs.Truths.{not_so}

-- candidates
two-same : (a b g h : ℕ) → eqb a g && eqb b h ≡ true → Two g h ≡ Two a b
two-same a b g h e =
    let p : g ≡ a = sym (eqb-true a g (and_left (eqb a g) (eqb b h) e)) in
    let q : h ≡ b = sym (eqb-true b h (and_right (eqb a g) (eqb b h) e)) in
    ap (λ (x : ℕ). Two x h) p ∙ ap (λ (x : ℕ). Two a x) q

pub candidates_is : (c e : Candidates) → same_candidates c e ≡ true → c ≡ e
candidates_is Absent Absent t = refl
candidates_is Absent (One a) t = absurd (not_so t)
candidates_is Absent (Two a b) t = absurd (not_so t)
candidates_is (One g) Absent t = absurd (not_so t)
candidates_is (One g) (One a) t = ap One (sym (eqb-true a g t))
candidates_is (One g) (Two a b) t = absurd (not_so t)
candidates_is (Two g h) Absent t = absurd (not_so t)
candidates_is (Two g h) (One a) t = absurd (not_so t)
candidates_is (Two g h) (Two a b) t = two-same a b g h t

candidates_self : (c : Candidates) → same_candidates c c ≡ true
candidates_self Absent = refl
candidates_self (One g) = eq-eqb g g refl
candidates_self (Two g h) = rw (eq-eqb g g refl, eq-eqb h h refl)

pub candidates_if : (c e : Candidates) → c ≡ e → same_candidates c e ≡ true
candidates_if c e q = ap (λ (x : Candidates). same_candidates x e) q ∙ candidates_self e

-- set kinds
set_is : (u t : ChipSetType) → same_set u t ≡ true → u ≡ t
set_is Single Single e = refl
set_is Single Banked e = absurd (not_so e)
set_is Single Multi e = absurd (not_so e)
set_is Banked Single e = absurd (not_so e)
set_is Banked Banked e = refl
set_is Banked Multi e = absurd (not_so e)
set_is Multi Single e = absurd (not_so e)
set_is Multi Banked e = absurd (not_so e)
set_is Multi Multi e = refl

set_self : (t : ChipSetType) → same_set t t ≡ true
set_self Single = refl
set_self Banked = refl
set_self Multi = refl

pub roms_is : (x : SlotType) (t : ChipSetType) → is_roms x t ≡ true → x ≡ Roms t
roms_is Unknown t e = absurd (not_so e)
roms_is Plugin t e = absurd (not_so e)
roms_is (Roms u) t e = ap Roms (set_is u t e)

pub roms_if : (x : SlotType) (t : ChipSetType) → x ≡ Roms t → is_roms x t ≡ true
roms_if x t q = ap (λ (y : SlotType). is_roms y t) q ∙ set_self t

-- a line's GPIO
pub at_is : (x : Option ℕ) (g : ℕ) → is_at x g ≡ true → x ≡ Some g
at_is None g e = absurd (not_so e)
at_is (Some h) g e = ap Some (eqb-true h g e)

pub at_if : (x : Option ℕ) (g : ℕ) → x ≡ Some g → is_at x g ≡ true
at_if x g q = ap (λ (y : Option ℕ). is_at y g) q ∙ eq-eqb g g refl

-- the first entries of a list
pub to_is : (n : ℕ) (l m : List ℕ) → same_to n l m ≡ true → (k : ℕ) → k < n → get_or l k 0 ≡ get_or m k 0
unfolding same_to
to_is n l m e k h = eqb-true _ _ (each_at _ n e k h)

pub to_if : (n : ℕ) (l m : List ℕ) → ((k : ℕ) → k < n → get_or l k 0 ≡ get_or m k 0) → same_to n l m ≡ true
unfolding same_to
to_if n l m h = each_all _ n (λ k q. eq-eqb _ _ (h k q))
