-- Two spans put together. Assumes nothing.
use Rattle.std.specs.Prelude.{cond, ltb}
use Rattle.gpio.specs.declared.span.Span.{Span}

abbrev pub spans_joined : Span → Span → Span
spans_joined s t = record { low = cond (ltb t.low s.low) t.low s.low; high = cond (ltb s.high t.high) t.high s.high }
