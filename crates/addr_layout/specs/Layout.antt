-- The address layout of a call that has none, and the domain of a layout handed in. Assumes nothing.
use Rattle.std.specs.Prelude.{ℕ, ◌+◌, Bool, ◌&&◌, leb, get_or, replicate, None, Result, Ok, Err}
use Rattle.lists.specs.Each.{each, between}
use Rattle.gpio.specs.Candidates.{gpio_in, last_gpio}
use Rattle.gpio.specs.Line.{line_gpio_in}
use Rattle.refusal.specs.Refusal.{Code, success, refusal_code}
use Rattle.refusal.specs.declared.Refusal.{Refusal}
use Rattle.addr_layout.specs.declared.layout.AddrLayout.{AddrLayout}

abbrev pub no_layout : AddrLayout
no_layout = record {
  gpio_base = 0;
  num_addr_pins = 0;
  x1_gpio = None;
  x2_gpio = None;
  gpios = replicate 24 0;
  num_lines = 0;
  num_excess = 0;
}

-- 01 Numbers 1: the code of an address search
abbrev pub addr_code : Result AddrLayout Refusal → Code
addr_code (Ok l) = success
addr_code (Err why) = refusal_code why

-- 01 Domain 13: all address lines are those in use and the excess ones
abbrev pub all_lines : AddrLayout → ℕ
all_lines l = l.num_lines + l.num_excess

-- 01 Domain 2: the GPIOs of the X pins and of all address lines are at most 47
-- 01 Domain 13: there are at most 24 address lines and at most 48 address pins
-- 01 Domain 14: the base is at most 47
unfoldable pub layout_in : AddrLayout → Bool
layout_in l =
    gpio_in l.gpio_base && leb l.num_addr_pins 48 && (line_gpio_in l.x1_gpio && line_gpio_in l.x2_gpio)
    && (leb (all_lines l) 24 && each (all_lines l) (λ k. between 0 last_gpio (get_or l.gpios k 0)))
