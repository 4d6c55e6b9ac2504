-- addr_layout.rs: the layout that a choice makes. Assumes nothing.
use Rattle.std.specs.Prelude.{ℕ, ◌+◌, ◌-◌, Bool, not, ◌&&◌, cond, List, leb, ltb, Option, Some, None}
use Rattle.lists.specs.Tab.{tab}
use Rattle.gpio.specs.declared.span.Span.{Span}
use Rattle.slot.specs.Description.{is_single}
use Rattle.slot.specs.declared.description.Description.{Description}
use Rattle.listing.specs.Choice.{gpio_at}
use Rattle.listing.specs.declared.Listed.{Listed}
use Rattle.addr_lines.specs.Lines.{lines}
use Rattle.addr_lines.specs.Range.{in_range}
use Rattle.addr_choices.specs.Choices.{spanning_of, choice_span, padded_pins}
use Rattle.addr_layout.specs.declared.layout.AddrLayout.{AddrLayout}

-- the X pins that pick a bank or a chip, behind the lines
-- 01 Shape 4: an X GPIO of a layout is unused, or is at a GPIO
abbrev pub line_gpio : Bool → ℕ → Option ℕ
line_gpio used g = cond used (Some g) None

-- the layout of pins resolved to GPIOs, of n lines u in use
-- 01 addr_layout 2: the lines behind those in use are the excess ones
-- 01 addr_layout 8: a layout has as many pins as its GPIOs span, but never fewer than 8
-- 01 addr_layout 9: the base of a layout is the lowest GPIO of its span
abbrev pub addr_layout_from : Span → (ℕ → ℕ) → Bool → Bool → ℕ → ℕ → AddrLayout
addr_layout_from s gpio one both n u = record {
  gpio_base = s.low;
  num_addr_pins = padded_pins s;
  x1_gpio = line_gpio one (gpio n);
  x2_gpio = line_gpio both (gpio (n + 1));
  gpios = tab 24 (λ k. cond (ltb k n) (gpio k) 0);
  num_lines = u;
  num_excess = n - u;
}

-- the layout that choice c makes
-- 01 Well wired 1: a layout uses as many lines as are in range
-- 01 addr_layout 5: X1 is behind the lines in any set but Single, and X2 behind X1 if there are at least 3 chips
abbrev pub addr_layout_of : Description → List Listed → ℕ → AddrLayout
addr_layout_of d ls c =
    addr_layout_from (choice_span ls (spanning_of d) c) (λ k. gpio_at ls c k) (not (is_single d.set_type))
    (not (is_single d.set_type) && leb 3 d.num_chips) (lines d) (in_range d)
