-- The domain of document 01 for a build: the description, and both layouts that are handed in. Assumes nothing.
use Rattle.std.specs.Prelude.{ℕ, Bool, true, false, ◌&&◌, cond, leb, get_or, Option, Some, None}
use Rattle.cs_roles.specs.Roles.{half_role}
use Rattle.lists.specs.Each.{each, between}
use Rattle.gpio.specs.Candidates.{gpio_in, last_gpio}
use Rattle.domain.specs.Domain.{description_in, qualifiers_in}
use Rattle.addr_layout.specs.Layout.{layout_in}
use Rattle.cs_data_layout.specs.Layout.{line}
use Rattle.cs_data_layout.specs.declared.layout.SelectLine.{SelectLine}
use Rattle.cs_data_layout.specs.declared.layout.Qualifiers.{Qualifiers}
use Rattle.cs_data_layout.specs.declared.layout.CsDataLayout.{CsDataLayout}
use Rattle.build_args.specs.declared.BuildArgs.{BuildArgs}

-- a commoned line, or a select line
abbrev pub select_line_of : CsDataLayout → Bool → ℕ → SelectLine
select_line_of c commoned k = cond commoned (get_or c.commoned_lines k (line 0 0)) (get_or c.select_lines k (line 0 0))

-- the roles are 0 to 8
-- 01 Domain 2: a select or commoned line has a GPIO of 0 to 47
abbrev pub select_line_in : SelectLine → Bool
select_line_in l = leb l.role half_role && gpio_in l.gpio

unfoldable pub select_lines_in : CsDataLayout → Bool → ℕ → Bool
select_lines_in c commoned n = each n (λ k. select_line_in (select_line_of c commoned k))

-- the base pin of the qualifiers, where there are any
abbrev pub qualifier_pin_in : Option Qualifiers → Bool
qualifier_pin_in None = true
qualifier_pin_in (Some q) = gpio_in q.base_qualifier_pin

-- 01 Domain 2: a data line has a GPIO of 0 to 47
-- 01 Domain 13: there are 1 to 16 data lines, at most 30 select lines and at most 6 commoned ones
-- 01 Domain 14: the base and the base pins are at most 47, that of the qualifiers where there are any
unfoldable pub cs_data_in : CsDataLayout → Bool
cs_data_in c =
    (gpio_in c.gpio_base && gpio_in c.base_data_pin && gpio_in c.base_cs_pin)
    && qualifier_pin_in c.qualifiers
    && (between 1 16 c.num_data_pins && each c.num_data_pins (λ k. between 0 last_gpio (get_or c.data_pin_gpios k 0)))
    && (leb c.num_select_lines 30 && select_lines_in c false c.num_select_lines)
    && (leb c.num_commoned_lines 6 && select_lines_in c true c.num_commoned_lines)

-- 01 Domain 15: a build always has an address layout, and so always looks at the qualifiers
unfoldable pub build_in : BuildArgs → Bool
build_in b =
    description_in b.description
    && layout_in b.addr
    && qualifiers_in b.description.qualifiers b.description.num_qualifiers b.addr.gpios b.addr.num_lines
    && cs_data_in b.cs_data
