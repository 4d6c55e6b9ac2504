-- Roles that are marked line by line. Assumes nothing.
use mathlib.Core.Path.{◌≡◌, refl, sym, ◌∙◌, ap}
use mathlib.Core.List.{List, [], ◌∷◌, ◌++◌}
use Prim.Native.Nat.{ℕ, ◌+◌, ◌≤◌, ◌<◌, min}
use native.Mathlib.Numerals.{add-one}
use native.Mathlib.Omega.{arith}
use lib.ListN.{length, get_or, set}
use lib.Seq.{set_out, set-get_or}
use Rattle.lists.specs.Tab.{tab}
use Rattle.pin_page.specs.Roles.{PageLine, page_line}
use Rattle.pin_page.specs.Design.Marks.{marked, marked_all}

-- what `mark` leaves: a GPIO past the list, one with a role that comes before, and any other
module _ (roles : List ℕ) (g role : ℕ) where
  pub mark-past : length roles ≤ g → roles ≡ marked roles (page_line role g)
  mark-past h = sym (set_out roles g (min role (get_or roles g 0)) h)

  pub mark-kept : get_or roles g 0 ≤ role → roles ≡ marked roles (page_line role g)
  mark-kept h = let e : min role (get_or roles g 0) ≡ get_or roles g 0 = omega arith in rw e (sym (set-get_or roles g 0))

  pub mark_lower : role < get_or roles g 0 → set roles g role ≡ marked roles (page_line role g)
  mark_lower h = let e : min role (get_or roles g 0) ≡ role = omega arith in rw e

-- lines behind others
pub marked_append : (roles : List ℕ) (xs ys : List PageLine) → marked_all (marked_all roles xs) ys ≡ marked_all roles (xs ++ ys)
unfolding marked_all
marked_append roles [] ys = refl
marked_append roles (x ∷ xs) ys = marked_append (marked roles x) xs ys

-- the same where what the first lines leave has another name
pub marked-behind : (roles mid out : List ℕ) (xs ys : List PageLine) → mid ≡ marked_all roles xs → out ≡ marked_all mid ys → out ≡ marked_all roles (xs ++ ys)
marked-behind roles mid out xs ys e f = f ∙ ap (λ (r : List ℕ). marked_all r ys) e ∙ marked_append roles xs ys

-- a loop that marks lines one by one: before the first turn, and one turn
module _ (roles : List ℕ) (f : ℕ → PageLine) where
  pub marks-none : roles ≡ marked_all roles (tab 0 f)
  unfolding marked_all tab
  marks-none = refl

  pub marks-turn : (out next : List ℕ) (k : ℕ) (l : PageLine) → out ≡ marked_all roles (tab k f) → next ≡ marked out l → l ≡ f k
      → next ≡ marked_all roles (tab (k + 1) f)
  unfolding marked_all tab
  marks-turn out next k l e h s = rw add-one (marked-behind roles out next (tab k f) (f k ∷ []) e (h ∙ ap (marked out) s))
