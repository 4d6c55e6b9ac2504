-- The page shows each GPIO's first role, and leaves nothing out. Assumes nothing.
use mathlib.Core.Path.{◌≡◌, refl, sym, ◌∙◌, ap}
use mathlib.Core.Bool.{Bool, true, false, not}
use mathlib.Core.List.{List, [], ◌∷◌, ◌++◌}
use Prim.Native.Nat.{ℕ, zero, suc, ◌+◌, ◌*◌, ◌≤◌, ◌<◌}
use native.Mathlib.Omega.{arith}
use lib.Dec.{ltb, eqb}
use lib.ListN.{length, get_or, get_or-append}
use lib.Seq.{get_or-append-add}
use borrow.Author.Tests.{eq-eqb, ltb-true, ltb-false, not-true}
use Rattle.lists.specs.Each.{each}
use Rattle.lists.specs.Tab.{tab, joined}
use Rattle.lists.proofs.Each.{each_at}
use Rattle.addr_layout.specs.declared.layout.AddrLayout.{AddrLayout}
use Rattle.cs_data_layout.specs.declared.layout.CsDataLayout.{CsDataLayout}
use Rattle.page_rows.specs.Rows.{bytes_of, hyphen, no_role, role_texts, role_text, row_text}
use Rattle.page_rows.proofs.RowsLaid.{text-long, rows_long}
use Rattle.pin_page.specs.Roles.{addr_page_lines, cs_data_page_lines, role_of}
use Rattle.pin_page.specs.Page.{page_text, layouts_in}
use Rattle.pin_page.proofs.Writes.{role_in, page-long}
use Rattle.page_law.specs.Law.{OrderLaw, Has, Shown, first, nothing, PageLaw, PageLaws}
use Rattle.page_law.proofs.Texts.{text_law}
use Rattle.page_law.proofs.Held.{first_least, first-held}
use Rattle.page_law.proofs.HasRoles.{has_held, held_has, has_some}

order_law : OrderLaw
order_law = record {
  address-data = λ n m h. omega arith;
  data_x = λ n h. omega arith;
  x1-x2 = omega arith;
  x_select = λ k. omega arith;
  select-half = λ k h. omega arith;
  half-commoned = λ k. omega arith;
  commoned-none = λ k h. omega arith;
  addresses = λ n m h. omega arith;
  datas = λ n m h. omega arith;
  selects = λ j k h. omega arith;
  commons = λ j k h. omega arith;
}

one-role : (a : AddrLayout) (c : CsDataLayout) (g r s : ℕ) → Shown a c g r → Shown a c g s → r ≡ s
one-role a c g r s (first h m) (first i n) = by (ltb r s) refl (ltb s r) refl
  where
    by : (t : Bool) → ltb r s ≡ t → (u : Bool) → ltb s r ≡ u → r ≡ s
    by true e u f = absurd (n r (ltb-true r s e) h)
    by false e true f = absurd (m s (ltb-true s r f) i)
    by false e false f = let p = ltb-false r s e in let q = ltb-false s r f in omega arith
one-role a c g r s (first h m) (nothing e n) = absurd (n r h)
one-role a c g r s (nothing e m) (first i n) = absurd (m s i)
one-role a c g r s (nothing e m) (nothing f n) = omega arith

-- byte j of row g
module _ (role : ℕ → ℕ) where
  abbrev row_of : ℕ → List ℕ
  row_of g = row_text g (role g)

  row-byte : (n g j : ℕ) → g < n → j < 9 → get_or (joined n row_of) (9 * g + j) 0 ≡ get_or (row_of g) j 0
  unfolding joined
  row-byte zero g j h l = absurd (omega arith)
  row-byte (suc n) g j h l = by (ltb g n) refl (row-byte n g j)
    where
      by : (t : Bool) → ltb g n ≡ t → (g < n → j < 9 → get_or (joined n row_of) (9 * g + j) 0 ≡ get_or (row_of g) j 0)
          → get_or (joined n row_of ++ row_of n) (9 * g + j) 0 ≡ get_or (row_of g) j 0
      by true e i =
          let k = ltb-true g n e in
          get_or-append (joined n row_of) (row_of n) 0 (9 * g + j) (omega (arith, rows_long role n)) ∙ i k l
      by false e i =
          let k = ltb-false g n e in
          let q : g ≡ n = omega arith in
          let w : 9 * g + j ≡ length (joined n row_of) + j = omega (arith, rows_long role n) in
          ap (λ x. get_or (joined n row_of ++ row_of n) x 0) w ∙ get_or-append-add (joined n row_of) (row_of n) j 0 ∙ ap (λ x. get_or (row_of x) j 0) (sym q)

-- no role but none has a hyphen
no_hyphen : each 55 (λ r. not (eqb (get_or (role_text r) 0 0) hyphen)) ≡ true
unfolding each role_text role_texts tab bytes_of
no_hyphen = refl

hyphen-none : (r : ℕ) → r ≤ no_role → get_or (role_text r) 0 0 ≡ hyphen → r ≡ no_role
hyphen-none r h e = by (ltb r no_role) refl
  where
    by : (t : Bool) → ltb r no_role ≡ t → r ≡ no_role
    by true t =
        let p = not-true (eqb (get_or (role_text r) 0 0) hyphen) (each_at (λ x. not (eqb (get_or (role_text x) 0 0) hyphen)) 55 no_hyphen r (ltb-true r no_role t)) in
        let q = eq-eqb (get_or (role_text r) 0 0) hyphen e in
        cc
    by false t = let q = ltb-false r no_role t in omega arith

none-hyphen : get_or (role_text no_role) 0 0 ≡ hyphen
unfolding role_text role_texts tab bytes_of
none-hyphen = refl

module _ (a : AddrLayout) (c : CsDataLayout) (d : layouts_in a c ≡ true) where
  least : (g r : ℕ) → Has a c g r → role_of a c g ≤ r
  unfolding role_of
  least g r h = first_least (addr_page_lines a ++ cs_data_page_lines c) g r (has_held a c g r h)

  has_first : (g : ℕ) → role_of a c g < no_role → Has a c g (role_of a c g)
  unfolding role_of
  has_first g h = held_has a c g (role_of a c g) d (first-held (addr_page_lines a ++ cs_data_page_lines c) g (role_of a c g) refl h)

  shown : (g : ℕ) → Shown a c g (role_of a c g)
  shown g = by (ltb (role_of a c g) no_role) refl
    where
      by : (t : Bool) → ltb (role_of a c g) no_role ≡ t → Shown a c g (role_of a c g)
      by true e = first (has_first g (ltb-true (role_of a c g) no_role e)) (λ r l h. absurd (omega (arith, least g r h)))
      by false e =
          let q = ltb-false (role_of a c g) no_role e in
          nothing (omega (arith, role_in a c g)) (λ r h. absurd (omega (arith, least g r h, has_some a c g r d h)))

  row : (g j : ℕ) → g < 48 → j < 9 → get_or (page_text a c) (9 * g + j) 0 ≡ get_or (row_text g (role_of a c g)) j 0
  unfolding page_text
  row g j h l = row-byte (role_of a c) 48 g j h l

  -- the byte behind the space is the first of the role's text
  role-byte : (g : ℕ) → g < 48 → get_or (page_text a c) (9 * g + 3) 0 ≡ get_or (role_text (role_of a c g)) 0 0
  role-byte g h =
      row g 3 h (omega arith)
      ∙ get_or-append (role_text (role_of a c g)) (10 ∷ []) 0 0 (omega (arith, text-long (role_of a c g)))

  page_law : PageLaw a c
  page_law = record {
    shown = shown;
    is_shown = λ g r h. one-role a c g (role_of a c g) r (shown g) h;
    long = page-long a c;
    row = row;
    shows_hyphen = λ g l e r h.
        absurd (omega (arith, hyphen-none (role_of a c g) (role_in a c g) (sym (role-byte g l) ∙ e), least g r h, has_some a c g r d h));
    is_hyphen = λ g l n. role-byte g l ∙ ap (λ x. get_or (role_text x) 0 0) (one-role a c g (role_of a c g) no_role (shown g) (nothing refl n)) ∙ none-hyphen;
  }

pub page_laws : PageLaws
page_laws = record { order = order_law; texts = text_law; page = page_law; one-role = one-role }
