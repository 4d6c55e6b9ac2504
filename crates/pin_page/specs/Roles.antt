-- The role of a GPIO under both layouts. Assumes nothing.
use Rattle.std.specs.Prelude.{ℕ, ◌+◌, min, Bool, true, false, cond, List, [], ◌∷◌, ◌++◌, eqb, get_or, Option, Some, None}
use Rattle.lists.specs.Tab.{tab}
use Rattle.cs_roles.specs.Roles.{x1_role, x2_role, half_role}
use Rattle.addr_layout.specs.declared.layout.AddrLayout.{AddrLayout}
use Rattle.cs_data_layout.specs.Choices.{excess_gpio}
use Rattle.cs_data_layout.specs.declared.layout.CsDataLayout.{CsDataLayout}
use Rattle.build_args.specs.Domain.{select_line_of}
use Rattle.page_rows.specs.Rows.{no_role}

-- A role is a number here, and the first of several is the lowest.

-- 02 Slip 4 3: address lines come first, by their numbers
abbrev pub role_a : ℕ → ℕ
role_a n = 0 + n

-- 02 Slip 4 3: then data lines, by their numbers
abbrev pub role_d : ℕ → ℕ
role_d n = 24 + n

-- 02 Slip 4 3: then X pins
abbrev pub role_x1 : ℕ
role_x1 = 40

abbrev pub role_x2 : ℕ
role_x2 = 41

-- 02 Slip 4 3: then selects, by their kinds: ce, oe, cs1 to cs4
abbrev pub role_select : ℕ → ℕ
role_select kind = 42 + kind

-- 02 Slip 4 4: a half select is the last of the selects
abbrev pub role_half : ℕ
role_half = 48

-- 02 Slip 4 3: then commoned lines, by the same kinds
abbrev pub role_commoned : ℕ → ℕ
role_commoned kind = 49 + kind

-- a line of a layout: its role on the page, and its GPIO
pub record PageLine : Type 0 where
  pub role : ℕ
  pub gpio : ℕ

abbrev pub page_line : ℕ → ℕ → PageLine
page_line role gpio = record { role = role; gpio = gpio }

-- 02 Slip 4 5: an address line has its place among the lines in use for a number
abbrev pub address_lines : AddrLayout → List PageLine
address_lines a = tab a.num_lines (λ n. page_line (role_a n) (get_or a.gpios n 0))

-- 02 Slip 4 4: an address line past those in use is a half select
abbrev pub excess_lines : AddrLayout → List PageLine
excess_lines a = tab a.num_excess (λ k. page_line role_half (excess_gpio a k))

abbrev pub data_lines : CsDataLayout → List PageLine
data_lines c = tab c.num_data_pins (λ n. page_line (role_d n) (get_or c.data_pin_gpios n 0))

-- an X pin of the address layout, where it has one
abbrev pub x_line : ℕ → Option ℕ → List PageLine
x_line role None = []
x_line role (Some g) = page_line role g ∷ []

-- 02 Slip 4 4: an X pin or a half select counts as such among the select lines and among the commoned ones
abbrev pub line_role : Bool → ℕ → ℕ
line_role is_commoned role =
    cond (eqb role x1_role) role_x1
    (cond (eqb role x2_role) role_x2 (cond (eqb role half_role) role_half (cond is_commoned (role_commoned role) (role_select role))))

abbrev pub select_lines : CsDataLayout → Bool → ℕ → List PageLine
select_lines c is_commoned n =
    tab n (λ k. page_line (line_role is_commoned (select_line_of c is_commoned k).role) (select_line_of c is_commoned k).gpio)

-- 02 Slip 4 4: of the address layout the lines in use, X pins and the excess lines count
unfoldable pub addr_page_lines : AddrLayout → List PageLine
addr_page_lines a = address_lines a ++ (x_line role_x1 a.x1_gpio ++ (x_line role_x2 a.x2_gpio ++ excess_lines a))

-- 02 Slip 4 4: of the other layout all data, select and commoned lines count
unfoldable pub cs_data_page_lines : CsDataLayout → List PageLine
cs_data_page_lines c = data_lines c ++ (select_lines c false c.num_select_lines ++ select_lines c true c.num_commoned_lines)

-- 02 Slip 4 3: the first role of the lines on a GPIO
-- 02 Slip 4 6: there is none where no line is on it
unfoldable pub first_role : List PageLine → ℕ → ℕ
first_role [] g = no_role
first_role (l ∷ ls) g = cond (eqb l.gpio g) (min l.role (first_role ls g)) (first_role ls g)

unfoldable pub role_of : AddrLayout → CsDataLayout → ℕ → ℕ
role_of a c g = first_role (addr_page_lines a ++ cs_data_page_lines c) g
