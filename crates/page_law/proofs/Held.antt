-- The lines that are on a GPIO, and the first role of them. Assumes nothing.
use mathlib.Core.Path.{◌≡◌, refl, sym, ◌∙◌, ap}
use mathlib.Core.Bool.{Bool, true, false, cond}
use mathlib.Core.List.{List, [], ◌∷◌, ◌++◌}
use mathlib.Core.Logic.{◌⊎◌, inl, inr}
use Prim.Native.Nat.{ℕ, zero, suc, ◌≤◌, ◌<◌, min}
use native.Mathlib.Omega.{arith}
use lib.Dec.{eqb, leb}
use borrow.Author.Tests.{eq-eqb, eqb-true, eqb-false, leb-true, leb-false}
use Rattle.lists.specs.Tab.{tab}
use Rattle.page_rows.specs.Rows.{no_role}
use Rattle.pin_page.specs.Roles.{PageLine, page_line, first_role}

-- one of the lines is on GPIO g and of role r
unfoldable pub Held : List PageLine → ℕ → ℕ → Type 0
Held [] g r = ⊥
Held (l ∷ ls) g r = (l ≡ page_line r g) ⊎ Held ls g r

module _ (g r : ℕ) where
  pub held_left : (xs ys : List PageLine) → Held xs g r → Held (xs ++ ys) g r
  unfolding Held
  held_left [] ys h = absurd h
  held_left (x ∷ xs) ys (inl e) = inl e
  held_left (x ∷ xs) ys (inr h) = inr (held_left xs ys h)

  pub held_right : (xs ys : List PageLine) → Held ys g r → Held (xs ++ ys) g r
  unfolding Held
  held_right [] ys h = h
  held_right (x ∷ xs) ys h = inr (held_right xs ys h)

  pub held-either : (xs ys : List PageLine) → Held (xs ++ ys) g r → Held xs g r ⊎ Held ys g r
  unfolding Held
  held-either [] ys h = inr h
  held-either (x ∷ xs) ys (inl e) = inl (inl e)
  held-either (x ∷ xs) ys (inr h) = by (held-either xs ys h)
    where
      by : Held xs g r ⊎ Held ys g r → Held (x ∷ xs) g r ⊎ Held ys g r
      by (inl l) = inl (inr l)
      by (inr l) = inr l

  -- one of n lines that are numbered
  pub record Numbered (n : ℕ) (f : ℕ → PageLine) : Type 0 where
    pub at : ℕ
    pub within : at < n
    pub is : f at ≡ page_line r g

  pub held_one : (n : ℕ) (f : ℕ → PageLine) → Numbered n f → Held (tab n f) g r
  unfolding tab Held
  held_one zero f h = absurd (let q = h.within in omega arith)
  held_one (suc n) f h = by (eqb h.at n) refl (held_one n f)
    where
      by : (t : Bool) → eqb h.at n ≡ t → (Numbered n f → Held (tab n f) g r) → Held (tab n f ++ (f n ∷ [])) g r
      by true e i = held_right (tab n f) (f n ∷ []) (inl (ap f (sym (eqb-true h.at n e)) ∙ h.is))
      by false e i =
          let q = eqb-false h.at n e in
          let w = h.within in
          held_left (tab n f) (f n ∷ []) (i (record { at = h.at; within = omega arith; is = h.is }))

  pub one-held : (n : ℕ) (f : ℕ → PageLine) → Held (tab n f) g r → Numbered n f
  unfolding tab Held
  one-held zero f h = absurd h
  one-held (suc n) f h = by (held-either (tab n f) (f n ∷ []) h) (one-held n f)
    where
      by : Held (tab n f) g r ⊎ Held (f n ∷ []) g r → (Held (tab n f) g r → Numbered n f) → Numbered (suc n) f
      by (inl l) i = let w = (i l).within in record { at = (i l).at; within = omega arith; is = (i l).is }
      by (inr (inl e)) i = record { at = n; within = omega arith; is = e }
      by (inr (inr l)) i = absurd l

-- no line on a GPIO is of a role before its first
pub first_least : (ls : List PageLine) (g r : ℕ) → Held ls g r → first_role ls g ≤ r
unfolding Held first_role
first_least [] g r h = absurd h
first_least (l ∷ ls) g r (inl e) =
    rw (eq-eqb l.gpio g (ap (λ (x : PageLine). x.gpio) e)) (let q : l.role ≡ r = ap (λ (x : PageLine). x.role) e in omega arith)
first_least (l ∷ ls) g r (inr h) = by (eqb l.gpio g) (first_least ls g r h)
  where
    by : (t : Bool) → first_role ls g ≤ r → cond t (min l.role (first_role ls g)) (first_role ls g) ≤ r
    by true q = omega arith
    by false q = q

-- a first role is that of a line
pub first-held : (ls : List PageLine) (g r : ℕ) → first_role ls g ≡ r → r < no_role → Held ls g r
unfolding Held first_role
first-held [] g r e h = absurd (omega arith)
first-held (l ∷ ls) g r e h = by (eqb l.gpio g) refl e (first-held ls g r)
  where
    lower : (t : Bool) → leb l.role (first_role ls g) ≡ t → l.gpio ≡ g → min l.role (first_role ls g) ≡ r
        → (first_role ls g ≡ r → r < no_role → Held ls g r) → (l ≡ page_line r g) ⊎ Held ls g r
    lower true t q s i =
        let m = leb-true l.role (first_role ls g) t in
        let w : l.role ≡ r = omega arith in
        inl (ap (λ x. page_line x l.gpio) w ∙ ap (page_line r) q)
    lower false t q s i = let m = leb-false l.role (first_role ls g) t in inr (i (omega arith) h)

    by : (t : Bool) → eqb l.gpio g ≡ t → cond t (min l.role (first_role ls g)) (first_role ls g) ≡ r
        → (first_role ls g ≡ r → r < no_role → Held ls g r) → (l ≡ page_line r g) ⊎ Held ls g r
    by true t s i = lower (leb l.role (first_role ls g)) refl (eqb-true l.gpio g t) s i
    by false t s i = inr (i s h)
