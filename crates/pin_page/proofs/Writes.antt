-- What a write leaves in the page, by its answer. Assumes nothing.
use Rattle.std.specs.Prelude.{Ok, Err}
use mathlib.Core.Path.{◌≡◌, refl, ◌∙◌, ap}
use mathlib.Core.Bool.{true, false}
use mathlib.Core.List.{List}
use Prim.Native.Nat.{ℕ, ◌≤◌, ◌<◌}
use native.Mathlib.Omega.{arith}
use lib.ListN.{length, get_or}
use borrow.Author.Tests.{lt-ltb, le-ltb}
use Rattle.lists.specs.Tab.{tab, joined}
use Rattle.lists.proofs.Tab.{get_or-tab, joined_cong}
use Rattle.refusal.specs.declared.Refusal.TheVariants.{OutOfDomain, ShortBuffer}
use Rattle.addr_layout.specs.declared.layout.AddrLayout.{AddrLayout}
use Rattle.cs_data_layout.specs.declared.layout.CsDataLayout.{CsDataLayout}
use Rattle.laid_bytes.specs.Laid.{laid}
use Rattle.laid_bytes.proofs.Laids.{laid-front}
use Rattle.hex_write.specs.Write.{wrote_as}
use Rattle.page_rows.specs.Rows.{no_role, row_text}
use Rattle.page_rows.specs.Design.Room.{RolesIn}
use Rattle.page_rows.proofs.RowsLaid.{rows_long}
use Rattle.pin_page.specs.Roles.{role_of}
use Rattle.pin_page.specs.Page.{page_text, layouts_in, page_of}
use Rattle.pin_page.proofs.Firsts.{first_in}

module _ (a : AddrLayout) (c : CsDataLayout) where
  pub role_in : (g : ℕ) → role_of a c g ≤ no_role
  unfolding role_of
  role_in g = first_in _ g

  pub page-long : length (page_text a c) ≡ 432
  unfolding page_text
  page-long = rows_long (role_of a c) 48

  -- what `page_roles` leaves, and the page that is made of it
  module _ (roles : List ℕ) (is : roles ≡ tab 48 (role_of a c)) where
    role-at : (g : ℕ) → g < 48 → get_or roles g 0 ≡ role_of a c g
    role-at g h = ap (λ (l : List ℕ). get_or l g 0) is ∙ get_or-tab (role_of a c) 48 g 0 h

    pub roles_in : RolesIn roles
    roles_in g h = omega (arith, role-at g h, role_in g)

    text_same : joined 48 (λ g. row_text g (get_or roles g 0)) ≡ page_text a c
    unfolding page_text
    text_same = joined_cong 48 (λ g. row_text g (get_or roles g 0)) (λ g. row_text g (role_of a c g)) (λ g h. ap (row_text g) (role-at g h))

    pub writes_all : layouts_in a c ≡ true → (page out : List ℕ) → 432 ≤ length page → out ≡ laid page 0 (joined 48 (λ g. row_text g (get_or roles g 0)))
        → wrote_as (Ok 432) out ≡ page_of a c page
    unfolding page_of
    writes_all t page out h e =
        let m : length (page_text a c) ≤ length page = omega (arith, page-long) in
        let p = e ∙ ap (laid page 0) text_same ∙ laid-front page (page_text a c) m in
        rw (t, le-ltb (length page) (length (page_text a c)) m, p, page-long) refl

  -- an answer that leaves the page as it was lent
  module _ (page : List ℕ) where
    pub writes_none : layouts_in a c ≡ false → wrote_as (Err OutOfDomain) page ≡ page_of a c page
    unfolding page_of
    writes_none t = rw t

    pub writes_short : layouts_in a c ≡ true → length page < 432 → wrote_as (Err ShortBuffer) page ≡ page_of a c page
    unfolding page_of
    writes_short t h = rw (t, lt-ltb (length page) (length (page_text a c)) (omega (arith, page-long)))
