-- What the page shows, in plain terms. Assumes nothing.
use Rattle.std.specs.Prelude.{ℕ, ◌+◌, ◌*◌, ◌<◌, ◌≡◌, Bool, true, false, cond, ◌++◌, length, get_or, take, Some}
use Rattle.slot.specs.Description.{ce_kind, oe_kind, cs1_kind, cs2_kind, cs3_kind, cs4_kind}
use Rattle.cs_roles.specs.Roles.{x1_role, x2_role, half_role}
use Rattle.addr_layout.specs.declared.layout.AddrLayout.{AddrLayout}
use Rattle.cs_data_layout.specs.Layout.{line}
use Rattle.cs_data_layout.specs.declared.layout.CsDataLayout.{CsDataLayout}
use Rattle.build_args.specs.Domain.{select_line_of}
use Rattle.page_rows.specs.Rows.{bytes_of, line_text, hyphen, no_role, role_text, row_text}
use Rattle.pin_page.specs.Roles.{role_a, role_d, role_x1, role_x2, role_select, role_half, role_commoned, role_of}
use Rattle.pin_page.specs.Page.{page_text, layouts_in}

-- 02 Slip 4 3: the order of the roles. The classes are in theirs, each behind all of the one before
pub record OrderLaw : Type 0 where
  pub address-data : (n m : ℕ) → n < 24 → role_a n < role_d m
  pub data_x : (n : ℕ) → n < 16 → role_d n < role_x1
  pub x1-x2 : role_x1 < role_x2
  pub x_select : (kind : ℕ) → role_x2 < role_select kind
  pub select-half : (kind : ℕ) → kind < x1_role → role_select kind < role_half
  pub half-commoned : (kind : ℕ) → role_half < role_commoned kind
  pub commoned-none : (kind : ℕ) → kind < x1_role → role_commoned kind < no_role
  -- 02 Slip 4 3: in a class the lowest number is first, and the kinds are ce, oe, cs1 to cs4 by their numbers
  pub addresses : (n m : ℕ) → n < m → role_a n < role_a m
  pub datas : (n m : ℕ) → n < m → role_d n < role_d m
  pub selects : (j k : ℕ) → j < k → role_select j < role_select k
  pub commons : (j k : ℕ) → j < k → role_commoned j < role_commoned k

-- the texts of the kinds, where the roles of these have the numbers that `role` gives
pub record KindsLaw (role : ℕ → ℕ) : Type 0 where
  pub ce : role_text (role ce_kind) ≡ bytes_of "CE   "
  pub oe : role_text (role oe_kind) ≡ bytes_of "OE   "
  pub cs1 : role_text (role cs1_kind) ≡ bytes_of "CS1  "
  pub cs2 : role_text (role cs2_kind) ≡ bytes_of "CS2  "
  pub cs3 : role_text (role cs3_kind) ≡ bytes_of "CS3  "
  pub cs4 : role_text (role cs4_kind) ≡ bytes_of "CS4  "

-- 02 Slip 4 2: each role's number has its text
pub record TextLaw : Type 0 where
  pub address : (n : ℕ) → n < 24 → role_text (role_a n) ≡ take 5 (line_text "A" n ++ bytes_of "   ")
  pub data-line : (n : ℕ) → n < 16 → role_text (role_d n) ≡ take 5 (line_text "D" n ++ bytes_of "   ")
  pub x1 : role_text role_x1 ≡ bytes_of "X1   "
  pub x2 : role_text role_x2 ≡ bytes_of "X2   "
  pub selects : KindsLaw role_select
  pub half : role_text role_half ≡ bytes_of "HALF "
  pub commons : KindsLaw role_commoned
  pub none : role_text no_role ≡ bytes_of "-    "

-- a select line, or a commoned one, that is of this role in its layout and on GPIO g
pub record LineOn (c : CsDataLayout) (is_commoned : Bool) (role g : ℕ) : Type 0 where
  pub at : ℕ
  pub within : at < cond is_commoned c.num_commoned_lines c.num_select_lines
  pub there : select_line_of c is_commoned at ≡ line role g

-- 02 Slip 4 3: the roles of GPIO g. It is an address line in use, a data line, an X pin, a select or a commoned line
-- 02 Slip 4 4: X pins and half selects are those of the address layout, those among the select lines and those among the commoned ones
-- 02 Slip 4 5: an address line in use is counted from 0
pub data Has (a : AddrLayout) (c : CsDataLayout) (g role : ℕ) : Type 0 where
  address : (n : ℕ) → n < a.num_lines → get_or a.gpios n 0 ≡ g → role ≡ role_a n → Has a c g role
  data-line : (n : ℕ) → n < c.num_data_pins → get_or c.data_pin_gpios n 0 ≡ g → role ≡ role_d n → Has a c g role
  x1 : a.x1_gpio ≡ Some g → role ≡ role_x1 → Has a c g role
  x1-line : (is_commoned : Bool) → LineOn c is_commoned x1_role g → role ≡ role_x1 → Has a c g role
  x2 : a.x2_gpio ≡ Some g → role ≡ role_x2 → Has a c g role
  x2-line : (is_commoned : Bool) → LineOn c is_commoned x2_role g → role ≡ role_x2 → Has a c g role
  select : (kind : ℕ) → kind < x1_role → LineOn c false kind g → role ≡ role_select kind → Has a c g role
  excess : (k : ℕ) → k < a.num_excess → get_or a.gpios (a.num_lines + k) 0 ≡ g → role ≡ role_half → Has a c g role
  half-line : (is_commoned : Bool) → LineOn c is_commoned half_role g → role ≡ role_half → Has a c g role
  commoned : (kind : ℕ) → kind < x1_role → LineOn c true kind g → role ≡ role_commoned kind → Has a c g role

-- 02 Slip 4 3: a role that is shown is one that the GPIO has, and it has none before
-- 02 Slip 4 6: none is shown if it has none
pub data Shown (a : AddrLayout) (c : CsDataLayout) (g role : ℕ) : Type 0 where
  first : Has a c g role → ((r : ℕ) → r < role → Has a c g r → ⊥) → Shown a c g role
  nothing : role ≡ no_role → ((r : ℕ) → Has a c g r → ⊥) → Shown a c g role

pub record PageLaw (a : AddrLayout) (c : CsDataLayout) : Type 0 where
  -- 02 Slip 4 3: the role of a GPIO is the one that may be shown, and no other is
  pub shown : (g : ℕ) → Shown a c g (role_of a c g)
  pub is_shown : (g role : ℕ) → Shown a c g role → role_of a c g ≡ role
  -- 02 Slip 4 1: 48 rows of nine bytes, that of GPIO g from byte 9 g on
  pub long : length (page_text a c) ≡ 432
  pub row : (g j : ℕ) → g < 48 → j < 9 → get_or (page_text a c) (9 * g + j) 0 ≡ get_or (row_text g (role_of a c g)) j 0
  -- 02 Slip 4 6: behind the space stands a hyphen exactly if the GPIO has no role
  pub shows_hyphen : (g : ℕ) → g < 48 → get_or (page_text a c) (9 * g + 3) 0 ≡ hyphen → (r : ℕ) → Has a c g r → ⊥
  pub is_hyphen : (g : ℕ) → g < 48 → ((r : ℕ) → Has a c g r → ⊥) → get_or (page_text a c) (9 * g + 3) 0 ≡ hyphen

-- layouts that keep to the domain have a page, and the roles that it may show are one for each GPIO
pub record PageLaws : Type 0 where
  pub order : OrderLaw
  pub texts : TextLaw
  pub page : (a : AddrLayout) (c : CsDataLayout) → layouts_in a c ≡ true → PageLaw a c
  pub one-role : (a : AddrLayout) (c : CsDataLayout) (g r s : ℕ) → Shown a c g r → Shown a c g s → r ≡ s
