-- `kind_listed` meets its contract. Assumes nothing.
use mathlib.Core.Path.{sym, ◌∙◌}
use borrow.Author.Tests.{eq-eqb, ne_eqb}
use Rattle.cs_pins.specs.Pins.{kind_listed}
use Rattle.cs_pins.proofs.kind_listed.Goals as goal

pub returns-then-pin-eq0 : goal.returns-then-pin-eq0
unfolding kind_listed
returns-then-pin-eq0 c = rw (eq-eqb _ 0 (sym c.kind_pin-pin.ensures ∙ c.if-pin-eq0.true)) c.pack.ensures

pub returns : goal.returns
unfolding kind_listed
returns c =
    rw (ne_eqb _ 0 (λ q. c.if-pin-eq0.false (c.kind_pin-pin.ensures ∙ q)), ← c.kind_pin-pin.ensures) c.pin_listed.ensures
