-- addr_layout.rs: what every choice spans. Assumes nothing.
use Rattle.std.specs.Prelude.{ℕ, zero, suc, cond, eqb, get_or}
use Rattle.gpio.specs.Span.{empty, widened}
use Rattle.gpio.specs.declared.candidates.Candidates.{Candidates}
use Rattle.gpio.specs.declared.candidates.Candidates.TheVariants.{Absent, One, Two}
use Rattle.gpio.specs.declared.span.Span.{Span}
use Rattle.slot.specs.Description.{is_multi}
use Rattle.slot.specs.declared.description.Description.{Description}
use Rattle.listing.specs.Lines.{kind_pin, pin_candidates}

-- 01 addr_layout 8: a select or commoned line widens the span by its first candidate, or not at all if it has none
abbrev pub widened_first : Span → Candidates → Span
widened_first s Absent = s
widened_first s (One g) = widened s g
widened_first s (Two g h) = widened s g

-- 01 addr_layout 8: a line that chip 0 lacks has no candidates, nor has one whose pin is off the socket
abbrev pub kind_candidates : Description → ℕ → Candidates
kind_candidates d kind = cond (eqb (kind_pin d kind) 0) Absent (pin_candidates d (kind_pin d kind))

-- 01 addr_layout 8: the span of the select line and of the first k commoned lines
unfoldable pub select_span : Description → ℕ → Span
select_span d zero = widened_first empty (kind_candidates d d.multi.select)
select_span d (suc k) = widened_first (select_span d k) (kind_candidates d (get_or d.multi.commoned k 0))

-- 01 addr_layout 8: select and commoned lines are spanned in Multi only
unfoldable pub fixed_span : Description → Span
fixed_span d = cond (is_multi d.set_type) (select_span d d.multi.num_commoned) empty
