-- addr_layout.rs: what a choice spans, and its score. Assumes nothing.
use Rattle.std.specs.Prelude.{ℕ, zero, suc, ◌+◌, ◌-◌, ◌*◌, Bool, ◌||◌, cond, List, leb, ltb, length, Option, Some, None}
use Rattle.gpio.specs.Window.{fits}
use Rattle.gpio.specs.Span.{widened}
use Rattle.gpio.specs.declared.span.Span.{Span}
use Rattle.slot.specs.declared.description.Description.{Description}
use Rattle.listing.specs.Choice.{gpio_at}
use Rattle.listing.specs.declared.Listed.{Listed}
use Rattle.addr_lines.specs.Lines.{lines, addr_listed}
use Rattle.addr_lines.specs.Range.{in_range}
use Rattle.select_span.specs.Selects.{fixed_span}
use Rattle.addr_choices.specs.declared.Spanning.{Spanning}

-- what no choice changes
abbrev pub spanning_of : Description → Spanning
spanning_of d = record { in_range = in_range d; lines = lines d; fixed = fixed_span d }

-- 01 addr_layout 8: of the lines the first that are in range are spanned, as are the X pins behind them all; excess lines are not
abbrev pub spanned : Spanning → ℕ → Bool
spanned s k = ltb k s.in_range || leb s.lines k

-- the GPIOs that a choice spans, the first k listed pins passed
unfoldable pub span_up_to : List Listed → Spanning → ℕ → ℕ → Span
span_up_to ls s c zero = s.fixed
span_up_to ls s c (suc k) = cond (spanned s k) (widened (span_up_to ls s c k) (gpio_at ls c k)) (span_up_to ls s c k)

abbrev pub choice_span : List Listed → Spanning → ℕ → Span
choice_span ls s c = span_up_to ls s c (length ls)

-- 01 addr_layout 8: the span is how many GPIOs there are from the lowest to the highest
abbrev pub span_width : Span → ℕ
span_width s = s.high - s.low + 1

-- 01 addr_layout 8: the pins are as many as the span, but never fewer than 8
abbrev pub padded_pins : Span → ℕ
padded_pins s = cond (ltb 8 (span_width s)) (span_width s) 8

-- 01 gpio_window 1: a choice fits if one window holds its pins, counted from its base
-- 01 addr_layout 9: the base of a choice is the lowest of the GPIOs that it spans
-- 01 addr_layout 10: a choice scores 1000 for each pin, and its base on top
unfoldable pub span_trial : Span → Option ℕ
span_trial s = cond (fits s.low (padded_pins s)) (Some (padded_pins s * 1000 + s.low)) None

-- what choice c of a description comes to
abbrev pub addr_trial : Description → ℕ → Option ℕ
addr_trial d c = span_trial (choice_span (addr_listed d) (spanning_of d) c)
