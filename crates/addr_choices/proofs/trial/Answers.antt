-- `trial` meets its contract. Assumes nothing.
use Rattle.std.specs.Prelude.{None}
use mathlib.Core.Path.{◌≡◌, sym, ◌∙◌}
use mathlib.Core.Bool.{and-false}
use Prim.Native.Nat.{◌+◌, ◌<◌}
use native.Mathlib.Omega.{arith}
use borrow.Author.Tests.{lt-leb}
use Rattle.gpio.specs.declared.span.Span.{Span}
use Rattle.addr_choices.specs.Choices.{padded_pins, span_trial}
use Rattle.addr_choices.proofs.trial.Goals as goal

-- more pins than a window has GPIOs past its base
too_wide : (s : Span) → 48 < padded_pins s → None ≡ span_trial s
unfolding span_trial
too_wide s h = rw (lt-leb (s.low + padded_pins s) 32 (omega arith), lt-leb (s.low + padded_pins s) 48 (omega arith), and-false)

pub returns-then-n-gt48 : goal.returns-then-n-gt48
returns-then-n-gt48 c = too_wide c.args.s (rw c.pins-n.ensures at c.if-n-gt48.true)

pub returns-then-fits : goal.returns-then-fits
unfolding span_trial
returns-then-fits c =
    let e = c.pins-n.ensures in
    rw (← e, sym c.fits.ensures ∙ c.if-fits.true)

pub returns : goal.returns
unfolding span_trial
returns c =
    let e = c.pins-n.ensures in
    rw (← e, sym c.fits.ensures ∙ c.if-fits.false)
