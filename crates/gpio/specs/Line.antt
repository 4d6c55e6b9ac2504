-- The GPIO of a line that may have none. Assumes nothing.
use Rattle.std.specs.Prelude.{Bool, true, Option, Some, None, ℕ}
use Rattle.gpio.specs.Candidates.{gpio_in}

-- 01 Domain 2: the GPIO of the line, if it has one, is at most 47
abbrev pub line_gpio_in : Option ℕ → Bool
line_gpio_in None = true
line_gpio_in (Some g) = gpio_in g
