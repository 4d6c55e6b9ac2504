-- What the marks of all lines come to: the first role of each GPIO. Assumes nothing.
use mathlib.Core.Path.{◌≡◌, refl, sym, ◌∙◌, ap}
use mathlib.Core.Bool.{Bool, true, false, cond}
use mathlib.Core.List.{List, [], ◌∷◌}
use Prim.Native.Nat.{ℕ, ◌≤◌, ◌<◌, min}
use native.Mathlib.Omega.{arith}
use lib.Dec.{eqb}
use lib.ListN.{get_or, replicate, length-set}
use lib.Seq.{get_or-set_same, get_or-set_other}
use borrow.Author.Tests.{eqb-true, eqb-false}
use Rattle.lists.specs.Tab.{tab}
use Rattle.lists.proofs.Tab.{tab_is, tab_cong, tab-length, get_or-tab}
use Rattle.page_rows.specs.Rows.{no_role}
use Rattle.pin_page.specs.Roles.{PageLine, first_role}
use Rattle.pin_page.specs.Design.Marks.{marked, marked_all}

pub first_in : (ls : List PageLine) (g : ℕ) → first_role ls g ≤ no_role
unfolding first_role
first_in [] g = omega arith
first_in (l ∷ ls) g = by (eqb l.gpio g) (first_in ls g)
  where
    by : (t : Bool) → first_role ls g ≤ no_role → cond t (min l.role (first_role ls g)) (first_role ls g) ≤ no_role
    by true h = omega arith
    by false h = h

-- the role of GPIO g after line l, if it was `before`
abbrev after : PageLine → ℕ → ℕ → ℕ
after l g before = cond (eqb l.gpio g) (min l.role before) before

module _ (n : ℕ) (f : ℕ → ℕ) (l : PageLine) where
  entry-same : (g : ℕ) → g < n → after l g (f g) ≡ get_or (marked (tab n f) l) g 0
  entry-same g h = by (eqb l.gpio g) refl
    where
      by : (t : Bool) → eqb l.gpio g ≡ t → cond t (min l.role (f g)) (f g) ≡ get_or (marked (tab n f) l) g 0
      by true e =
          let q : l.gpio ≡ g = eqb-true l.gpio g e in
          rw (q, get_or-tab f n g 0 h) (sym (get_or-set_same (tab n f) g (min l.role (f g)) 0 (rw (tab-length f n) h)))
      by false e =
          let q = eqb-false l.gpio g e in
          sym (get_or-set_other (tab n f) l.gpio g (min l.role (get_or (tab n f) l.gpio 0)) 0 (λ s. q (sym s)) ∙ get_or-tab f n g 0 h)

  marked-tab : marked (tab n f) l ≡ tab n (λ g. after l g (f g))
  marked-tab =
      sym (tab_is (λ g. after l g (f g)) (marked (tab n f) l) 0 n
      (length-set (tab n f) l.gpio (min l.role (get_or (tab n f) l.gpio 0)) ∙ tab-length f n) entry-same)

-- the lines are gone through from the front, and the first role is told from the back: it is the lowest either way
lowest : (l : PageLine) (ls : List PageLine) (g before : ℕ) → min (first_role ls g) (after l g before) ≡ min (first_role (l ∷ ls) g) before
unfolding first_role
lowest l ls g before = by (eqb l.gpio g)
  where
    by : (t : Bool) → min (first_role ls g) (cond t (min l.role before) before)
        ≡ min (cond t (min l.role (first_role ls g)) (first_role ls g)) before
    by true = omega arith
    by false = refl

after_in : (l : PageLine) (g before : ℕ) → before ≤ no_role → after l g before ≤ no_role
after_in l g before h = by (eqb l.gpio g)
  where
    by : (t : Bool) → cond t (min l.role before) before ≤ no_role
    by true = omega arith
    by false = h

marked_all_lem : (n : ℕ) (ls : List PageLine) (f : ℕ → ℕ) → ((g : ℕ) → f g ≤ no_role) → marked_all (tab n f) ls ≡ tab n (λ g. min (first_role ls g) (f g))
unfolding marked_all first_role
marked_all_lem n [] f h = tab_cong f (λ g. min no_role (f g)) n (λ g _. kept g)
  where
    kept : (g : ℕ) → f g ≡ min no_role (f g)
    kept g = let q = h g in omega arith
marked_all_lem n (l ∷ ls) f h =
    ap (λ (r : List ℕ). marked_all r ls) (marked-tab n f l)
    ∙ marked_all_lem n ls (λ g. after l g (f g)) (λ g. after_in l g (f g) (h g))
    ∙ tab_cong (λ g. min (first_role ls g) (after l g (f g))) (λ g. min (first_role (l ∷ ls) g) (f g)) n (λ g _. lowest l ls g (f g))

-- 48 GPIOs without a role, and all lines marked
no_roles : replicate 48 no_role ≡ tab 48 (λ _. no_role)
unfolding tab
no_roles = refl

pub firsts : (ls : List PageLine) (out : List ℕ) → out ≡ marked_all (replicate 48 no_role) ls → out ≡ tab 48 (first_role ls)
firsts ls out e =
    e ∙ ap (λ (r : List ℕ). marked_all r ls) no_roles
    ∙ marked_all_lem 48 ls (λ _. no_role) (λ g. omega arith)
    ∙ tab_cong (λ g. min (first_role ls g) no_role) (first_role ls) 48 (λ g _. lower g)
  where
    lower : (g : ℕ) → min (first_role ls g) no_role ≡ first_role ls g
    lower g = let q = first_in ls g in omega arith
