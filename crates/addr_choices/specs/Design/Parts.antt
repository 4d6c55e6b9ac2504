-- What the search keeps while it runs over the choices in rows. No answer is defined by it: `choice_span` says what a choice
-- spans. Assumes nothing.
use Rattle.std.specs.Prelude.{ℕ, zero, suc, Bool, ◌&&◌, cond, List, length}
use Rattle.gpio.specs.Span.{widened}
use Rattle.gpio.specs.declared.span.Span.{Span}
use Rattle.listing.specs.Choice.{gpio_at, bit_of}
use Rattle.listing.specs.Design.Parts.{in_part}
use Rattle.listing.specs.declared.Listed.{Listed}
use Rattle.addr_choices.specs.Choices.{spanned}
use Rattle.addr_choices.specs.declared.Spanning.{Spanning}

-- of the GPIOs that choice c spans, those of pins whose bit is in one part of the number, the first k listed pins passed
unfoldable pub span_part_at : List Listed → Spanning → Bool → ℕ → ℕ → ℕ → Span
span_part_at ls s low split c zero = s.fixed
span_part_at ls s low split c (suc k) =
    cond (spanned s k && in_part low split (bit_of ls k)) (widened (span_part_at ls s low split c k) (gpio_at ls c k))
    (span_part_at ls s low split c k)

abbrev pub part_span : List Listed → Spanning → Bool → ℕ → ℕ → Span
part_span ls s low split c = span_part_at ls s low split c (length ls)
