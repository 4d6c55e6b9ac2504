-- The rows of the page: their lengths, and the rows laid over a buffer one by one. Assumes nothing.
use mathlib.Core.Path.{◌≡◌, refl, ◌∙◌, ap}
use mathlib.Core.List.{List, [], ◌∷◌, ◌++◌}
use Prim.Native.Nat.{ℕ, zero, suc, ◌+◌, ◌*◌, ◌/◌, ◌%◌, ◌≤◌}
use native.Mathlib.Numerals.{add-one}
use native.Mathlib.Omega.{arith}
use lib.ListN.{length, get_or, set, replicate, length-append, length-take}
use Rattle.lists.specs.Tab.{tab, joined}
use Rattle.lists.proofs.Tab.{get_or-tab}
use Rattle.laid_bytes.specs.Laid.{laid}
use Rattle.laid_bytes.proofs.Laids.{laid-behind, laid_one}
use Rattle.page_rows.specs.Rows.{no_role, digit, role_texts, role_text, row_text}

pub text-long : (role : ℕ) → length (role_text role) ≡ 5
unfolding role_text
text-long role =
    length-take 5 (get_or role_texts role [] ++ replicate 5 32)
    ∙ omega (arith, length-append (get_or role_texts role []) (replicate 5 32))

pub row-long : (g role : ℕ) → length (row_text g role) ≡ 9
row-long g role = omega (arith, length-append (role_text role) (10 ∷ []), text-long role)

-- the text of a role, looked up
pub text_at : (texts : List (List ℕ)) (role : ℕ) → texts ≡ tab 56 role_text → role ≤ no_role → get_or texts role [] ≡ role_text role
text_at texts role e h = ap (λ (l : List (List ℕ)). get_or l role []) e ∙ get_or-tab role_text 56 role [] (omega arith)

-- the bytes of a row one after the other, its role's text at once
front-laid : (b : List ℕ) (at x y z : ℕ) → set (set (set b at x) (at + 1) y) (at + 2) z ≡ laid b at (x ∷ y ∷ z ∷ [])
unfolding laid
front-laid b at x y z = let e : at + 1 + 1 ≡ at + 2 = omega arith in rw e

pub row_laid : (b mid : List ℕ) (g role : ℕ) (text : List ℕ) → text ≡ role_text role
    → mid ≡ laid (set (set (set b (9 * g) (48 + g / 10)) (9 * g + 1) (48 + g % 10)) (9 * g + 2) 32) (9 * g + 3) text
    → set mid (9 * g + 8) 10 ≡ laid b (9 * g) (row_text g role)
row_laid b mid g role text e m =
    let front = digit (g / 10) ∷ digit (g % 10) ∷ 32 ∷ [] in
    ap (λ (x : List ℕ). set x (9 * g + 8) 10) (m ∙ ap (laid _ (9 * g + 3)) e)
    ∙ laid_one _ (9 * g + 3) (9 * g + 8) (role_text role) 10 (omega (arith, text-long role))
    ∙ ap (λ (x : List ℕ). laid x (9 * g + 3) (role_text role ++ (10 ∷ []))) (front-laid b (9 * g) (48 + g / 10) (48 + g % 10) 32)
    ∙ laid-behind b (9 * g) (9 * g + 3) front (role_text role ++ (10 ∷ [])) (omega arith)

-- rows of any roles
module _ (role : ℕ → ℕ) where
  abbrev row : ℕ → List ℕ
  row g = row_text g (role g)

  pub rows_long : (n : ℕ) → length (joined n row) ≡ 9 * n
  unfolding joined
  rows_long zero = refl
  rows_long (suc n) = omega (arith, length-append (joined n row) (row n), rows_long n, row-long n (role n))

  -- a loop that lays them: before the first turn, and one turn
  pub rows_none : (b : List ℕ) → b ≡ laid b 0 (joined 0 row)
  unfolding laid joined
  rows_none b = refl

  pub rows_turn : (b out next : List ℕ) (g r : ℕ) → out ≡ laid b 0 (joined g row) → next ≡ laid out (9 * g) (row_text g r) → r ≡ role g
      → next ≡ laid b 0 (joined (g + 1) row)
  unfolding joined
  rows_turn b out next g r e n q =
      rw add-one
      (n ∙ ap (λ x. laid out (9 * g) (row_text g x)) q
      ∙ ap (λ (x : List ℕ). laid x (9 * g) (row g)) e
      ∙ laid-behind b 0 (9 * g) (joined g row) (row g) (omega (arith, rows_long g)))
