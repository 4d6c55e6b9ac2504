-- A GPIO has a role exactly if one of the lines on it is of that role. Assumes nothing.
use Rattle.std.specs.Prelude.{Option, Some, None}
use mathlib.Core.Path.{◌≡◌, refl, sym, ◌∙◌, ap, subst}
use mathlib.Core.Bool.{Bool, true, false, cond}
use mathlib.Core.List.{List, ◌++◌}
use mathlib.Core.Logic.{◌⊎◌, inl, inr}
use Prim.Native.Nat.{ℕ, ◌+◌, ◌<◌}
use native.Mathlib.Omega.{arith}
use lib.Dec.{eqb}
use borrow.Author.Tests.{ne_eqb, eqb-true, eqb-false}
use Rattle.lists.proofs.Bools.{and_left, and_right}
use Rattle.cs_roles.specs.Roles.{x1_role, x2_role, half_role}
use Rattle.addr_layout.specs.Layout.{layout_in}
use Rattle.addr_layout.specs.declared.layout.AddrLayout.{AddrLayout}
use Rattle.cs_data_layout.proofs.Bounds.{few-lines}
use Rattle.cs_data_layout.specs.Layout.{line}
use Rattle.cs_data_layout.specs.declared.layout.CsDataLayout.{CsDataLayout}
use Rattle.cs_data_layout.specs.declared.layout.SelectLine.{SelectLine}
use Rattle.build_args.specs.Domain.{select_line_of, select_lines_in, cs_data_in}
use Rattle.build_args.proofs.Facts.{data-count, selects_in, commoned_in}
use Rattle.page_rows.specs.Rows.{no_role}
use Rattle.pin_page.specs.Roles.{
  PageLine,
  page_line,
  role_x1,
  role_x2,
  role_select,
  role_half,
  role_commoned,
  address_lines,
  excess_lines,
  data_lines,
  x_line,
  line_role,
  select_lines,
  addr_page_lines,
  cs_data_page_lines,
}
use Rattle.pin_page.specs.Page.{layouts_in}
use Rattle.page_law.specs.Law.{LineOn, Has, address, data-line, x1, x1-line, x2, x2-line, select, excess, half-line, commoned}
use Rattle.pin_page.proofs.Domain.{line_role_in}
use Rattle.page_law.proofs.Held.{Held, Numbered, held_left, held_right, held-either, held_one, one-held}

role_same : (l : PageLine) (r g : ℕ) → l ≡ page_line r g → l.role ≡ r
role_same l r g e = ap (λ (x : PageLine). x.role) e

gpio-same : (l : PageLine) (r g : ℕ) → l ≡ page_line r g → l.gpio ≡ g
gpio-same l r g e = ap (λ (x : PageLine). x.gpio) e

-- the role of a line of one of the six kinds
kind_role : (is_commoned : Bool) (kind : ℕ) → kind < x1_role → line_role is_commoned kind ≡ cond is_commoned (role_commoned kind) (role_select kind)
kind_role is_commoned kind h =
    rw (ne_eqb kind x1_role (λ e. omega arith), ne_eqb kind x2_role (λ e. omega arith), ne_eqb kind half_role (λ e. omega arith))

-- the lines of a list, select or commoned
module _ (c : CsDataLayout) (is_commoned : Bool) where
  abbrev count : ℕ
  count = cond is_commoned c.num_commoned_lines c.num_select_lines

  abbrev page_line_of : SelectLine → PageLine
  page_line_of l = page_line (line_role is_commoned l.role) l.gpio

  line-held : (role g r : ℕ) → LineOn c is_commoned role g → r ≡ line_role is_commoned role → Held (select_lines c is_commoned count) g r
  line-held role g r l e =
      held_one g r count (λ k. page_line_of (select_line_of c is_commoned k))
      (record { at = l.at; within = l.within; is = ap page_line_of l.there ∙ ap (λ x. page_line x g) (sym e) })

  -- what a held line is, by its role
  pub data LineIs (g r : ℕ) : Type 0 where
    an_x1 : LineOn c is_commoned x1_role g → r ≡ role_x1 → LineIs g r
    an_x2 : LineOn c is_commoned x2_role g → r ≡ role_x2 → LineIs g r
    a_half : LineOn c is_commoned half_role g → r ≡ role_half → LineIs g r
    of_kind : (kind : ℕ) → kind < x1_role → LineOn c is_commoned kind g → r ≡ cond is_commoned (role_commoned kind) (role_select kind) → LineIs g r

  held-line : (g r : ℕ) → select_lines_in c is_commoned count ≡ true → Held (select_lines c is_commoned count) g r → LineIs g r
  held-line g r d h = by (eqb l.role x1_role) refl (eqb l.role x2_role) refl (eqb l.role half_role) refl
    where
      n : Numbered g r count (λ k. page_line_of (select_line_of c is_commoned k))
      n = one-held g r count (λ k. page_line_of (select_line_of c is_commoned k)) h

      l : SelectLine
      l = select_line_of c is_commoned n.at

      on : (role : ℕ) → l.role ≡ role → LineOn c is_commoned role g
      on role e = record {
        at = n.at;
        within = n.within;
        there = ap (λ x. line x l.gpio) e ∙ ap (line role) (gpio-same (page_line_of l) r g n.is);
      }

      told : r ≡ line_role is_commoned l.role
      told = sym (role_same (page_line_of l) r g n.is)

      by : (s : Bool) → eqb l.role x1_role ≡ s → (t : Bool) → eqb l.role x2_role ≡ t → (u : Bool) → eqb l.role half_role ≡ u → LineIs g r
      by true e t f u i = let q = eqb-true l.role x1_role e in an_x1 (on x1_role q) (told ∙ ap (line_role is_commoned) q)
      by false e true f u i = let q = eqb-true l.role x2_role f in an_x2 (on x2_role q) (told ∙ ap (line_role is_commoned) q)
      by false e false f true i = let q = eqb-true l.role half_role i in a_half (on half_role q) (told ∙ ap (line_role is_commoned) q)
      by false e false f false i =
          let b = line_role_in c is_commoned count n.at d n.within in
          let p = eqb-false l.role x1_role e in
          let q = eqb-false l.role x2_role f in
          let s = eqb-false l.role half_role i in
          let k : l.role < x1_role = omega arith in
          of_kind l.role k (on l.role refl) (told ∙ kind_role is_commoned l.role k)

module _ (a : AddrLayout) (c : CsDataLayout) (g r : ℕ) where
  abbrev addr_lines : List PageLine
  addr_lines = addr_page_lines a

  abbrev cs_lines : List PageLine
  cs_lines = cs_data_page_lines c

  abbrev selects : List PageLine
  selects = select_lines c false c.num_select_lines

  abbrev commoned_lines : List PageLine
  commoned_lines = select_lines c true c.num_commoned_lines

  in_addr : Held addr_lines g r → Held (addr_lines ++ cs_lines) g r
  in_addr h = held_left g r addr_lines cs_lines h

  in_cs : Held cs_lines g r → Held (addr_lines ++ cs_lines) g r
  in_cs h = held_right g r addr_lines cs_lines h

  -- a line of either list
  either-list : (is_commoned : Bool) → Held (select_lines c is_commoned (cond is_commoned c.num_commoned_lines c.num_select_lines)) g r → Held cs_lines g r
  unfolding cs_data_page_lines
  either-list false h = held_right g r (data_lines c) (selects ++ commoned_lines) (held_left g r selects commoned_lines h)
  either-list true h = held_right g r (data_lines c) (selects ++ commoned_lines) (held_right g r selects commoned_lines h)

  by_line : (is_commoned : Bool) (role : ℕ) → LineOn c is_commoned role g → r ≡ line_role is_commoned role → Held (addr_lines ++ cs_lines) g r
  by_line is_commoned role l e = in_cs (either-list is_commoned (line-held c is_commoned role g r l e))

  x_held : (role : ℕ) (x : Option ℕ) → x ≡ Some g → r ≡ role → Held (x_line role x) g r
  unfolding Held
  x_held role x e q = subst (λ (y : Option ℕ). Held (x_line role y) g r) (sym e) (inl (ap (λ s. page_line s g) (sym q)))

  pub has_held : Has a c g r → Held (addr_lines ++ cs_lines) g r
  unfolding addr_page_lines cs_data_page_lines
  has_held (address n l e q) =
      in_addr (held_left g r (address_lines a) _ (held_one g r a.num_lines _ (record { at = n; within = l; is = ap (page_line _) e ∙ ap (λ s. page_line s g) (sym q) })))
  has_held (data-line n l e q) =
      in_cs (held_left g r (data_lines c) _ (held_one g r c.num_data_pins _ (record { at = n; within = l; is = ap (page_line _) e ∙ ap (λ s. page_line s g) (sym q) })))
  has_held (x1 e q) = in_addr (held_right g r (address_lines a) _ (held_left g r (x_line role_x1 a.x1_gpio) _ (x_held role_x1 _ e q)))
  has_held (x1-line b l q) = by_line b x1_role l q
  has_held (x2 e q) =
      in_addr (held_right g r (address_lines a) _ (held_right g r (x_line role_x1 a.x1_gpio) _ (held_left g r (x_line role_x2 a.x2_gpio) _ (x_held role_x2 _ e q))))
  has_held (x2-line b l q) = by_line b x2_role l q
  has_held (select kind h l q) = by_line false kind l (q ∙ sym (kind_role false kind h))
  has_held (excess k l e q) =
      in_addr (held_right g r (address_lines a) _ (held_right g r (x_line role_x1 a.x1_gpio) _ (held_right g r (x_line role_x2 a.x2_gpio) _
      (held_one g r a.num_excess _ (record { at = k; within = l; is = ap (page_line role_half) e ∙ ap (λ s. page_line s g) (sym q) })))))
  has_held (half-line b l q) = by_line b half_role l q
  has_held (commoned kind h l q) = by_line true kind l (q ∙ sym (kind_role true kind h))

  from_list : (is_commoned : Bool) → LineIs c is_commoned g r → Has a c g r
  from_list b (an_x1 l q) = x1-line b l q
  from_list b (an_x2 l q) = x2-line b l q
  from_list b (a_half l q) = half-line b l q
  from_list false (of_kind kind h l q) = select kind h l q
  from_list true (of_kind kind h l q) = commoned kind h l q

  held_x : (role : ℕ) (x : Option ℕ) → Held (x_line role x) g r → (x ≡ Some g) × (r ≡ role)
  unfolding Held
  held_x role None h = absurd h
  held_x role (Some y) (inl e) = (ap Some (gpio-same (page_line role y) r g e), sym (role_same (page_line role y) r g e))
  held_x role (Some y) (inr h) = absurd h

  from_addr : Held addr_lines g r → Has a c g r
  unfolding addr_page_lines
  from_addr h = by_address (held-either g r (address_lines a) _ h)
    where
      by_x2 : Held (x_line role_x2 a.x2_gpio) g r ⊎ Held (excess_lines a) g r → Has a c g r
      by_x2 (inl l) = let e = held_x role_x2 a.x2_gpio l in x2 e.0 e.1
      by_x2 (inr l) =
          let n = one-held g r a.num_excess _ l in
          excess n.at n.within (gpio-same _ r g n.is) (sym (role_same _ r g n.is))

      by_x1 : Held (x_line role_x1 a.x1_gpio) g r ⊎ Held (x_line role_x2 a.x2_gpio ++ excess_lines a) g r → Has a c g r
      by_x1 (inl l) = let e = held_x role_x1 a.x1_gpio l in x1 e.0 e.1
      by_x1 (inr l) = by_x2 (held-either g r (x_line role_x2 a.x2_gpio) (excess_lines a) l)

      by_address : Held (address_lines a) g r ⊎ Held (x_line role_x1 a.x1_gpio ++ (x_line role_x2 a.x2_gpio ++ excess_lines a)) g r → Has a c g r
      by_address (inl l) =
          let n = one-held g r a.num_lines _ l in
          address n.at n.within (gpio-same _ r g n.is) (sym (role_same _ r g n.is))
      by_address (inr l) = by_x1 (held-either g r (x_line role_x1 a.x1_gpio) (x_line role_x2 a.x2_gpio ++ excess_lines a) l)

  from_cs : cs_data_in c ≡ true → Held cs_lines g r → Has a c g r
  unfolding cs_data_page_lines
  from_cs d h = by_data (held-either g r (data_lines c) (selects ++ commoned_lines) h)
    where
      by_select : Held selects g r ⊎ Held commoned_lines g r → Has a c g r
      by_select (inl l) = from_list false (held-line c false g r (selects_in c d) l)
      by_select (inr l) = from_list true (held-line c true g r (commoned_in c d) l)

      by_data : Held (data_lines c) g r ⊎ Held (selects ++ commoned_lines) g r → Has a c g r
      by_data (inl l) =
          let n = one-held g r c.num_data_pins _ l in
          data-line n.at n.within (gpio-same _ r g n.is) (sym (role_same _ r g n.is))
      by_data (inr l) = by_select (held-either g r selects commoned_lines l)

  pub held_has : layouts_in a c ≡ true → Held (addr_lines ++ cs_lines) g r → Has a c g r
  held_has d h = by (held-either g r addr_lines cs_lines h)
    where
      by : Held addr_lines g r ⊎ Held cs_lines g r → Has a c g r
      by (inl l) = from_addr l
      by (inr l) = from_cs (and_right (layout_in a) (cs_data_in c) d) l

  -- each role of the page is one before none
  pub has_some : layouts_in a c ≡ true → Has a c g r → r < no_role
  has_some d (address n l e q) = omega (arith, few-lines a (and_left (layout_in a) (cs_data_in c) d))
  has_some d (data-line n l e q) = omega (arith, data-count c (and_right (layout_in a) (cs_data_in c) d))
  has_some d (x1 e q) = omega arith
  has_some d (x1-line b l q) = omega arith
  has_some d (x2 e q) = omega arith
  has_some d (x2-line b l q) = omega arith
  has_some d (select kind h l q) = omega arith
  has_some d (excess k l e q) = omega arith
  has_some d (half-line b l q) = omega arith
  has_some d (commoned kind h l q) = omega arith
