-- Where a line stands in an index or in an entry: its GPIO less the base. Assumes nothing.
use Rattle.std.specs.Prelude.{ℕ, ◌-◌, Bool, false, ◌&&◌, leb, Option, Some, None}

abbrev pub position : ℕ → ℕ → ℕ
position base gpio = gpio - base

-- 01 Number 13: passed by a line whose GPIO is not under the base and at most 31 over it
abbrev pub position_in : ℕ → ℕ → Bool
position_in base gpio = leb base gpio && leb (position base gpio) 31

-- 01 Number 13: not passed by an X pin or first select line that has no GPIO
abbrev pub x_position_in : ℕ → Option ℕ → Bool
x_position_in base None = false
x_position_in base (Some gpio) = position_in base gpio

abbrev pub x_position : ℕ → Option ℕ → ℕ
x_position base None = 0
x_position base (Some gpio) = position base gpio
