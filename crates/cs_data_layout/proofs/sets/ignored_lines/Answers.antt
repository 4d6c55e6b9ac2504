-- `ignored_lines` meets its contract. The loop's invariant: `s` has the candidates of the lines passed. Assumes nothing.
use mathlib.Core.Path.{◌≡◌, refl, ◌∙◌}
use mathlib.Core.Bool.{true}
use Prim.Native.Nat.{ℕ, ◌+◌}
use native.Mathlib.Numerals.{add-one}
use native.Mathlib.Omega.{arith}
use lib.ListN.{get_or}
use Rattle.gpio.specs.Candidates.{candidates_in}
use Rattle.slot.specs.declared.description.Description.{Description}
use Rattle.domain.specs.Domain.{description_in}
use Rattle.listing.specs.declared.Listed.{Listed}
use Rattle.cs_pins.specs.Pins.{kind_listed}
use Rattle.cs_pins.proofs.InDomain.{kind_in}
use Rattle.cs_data_layout.specs.Choices.{with_candidates, ignored_at}
use Rattle.cs_data_layout.proofs.sets.ignored_lines.Goals as goal

line_in : (d : Description) (kind : ℕ) (l : Listed) → description_in d ≡ true → l ≡ kind_listed d kind → candidates_in l.gpios ≡ true
line_in d kind l e h = rw h (kind_in d e kind)

turn : (d : Description) (k kind s t : ℕ) (l : Listed) → s ≡ ignored_at d k → kind ≡ get_or d.multi.ignored k 0 → l ≡ kind_listed d kind → t ≡ with_candidates s l.gpios
    → t ≡ ignored_at d (k + 1)
unfolding ignored_at
turn d k kind s t l e h i j = rw (j, i, h, e, add-one)

pub loop-k-init : goal.loop-k-init
unfolding ignored_at
loop-k-init c = (omega arith, refl, c.requires, refl)

pub with_candidates-s-requires : goal.with_candidates-s-requires
with_candidates-s-requires c = line_in _ _ _ c.loop-k.invariant.2 (c.listed-pin.ensures ∙ c.kind_listed-packed.ensures)

pub loop-k-preserved : goal.loop-k-preserved
loop-k-preserved c =
    let i = c.loop-k.invariant in
    (omega arith, i.1, i.2, turn _ _ _ _ _ _ i.3 c.ignored_kind.ensures (c.listed-pin.ensures ∙ c.kind_listed-packed.ensures) c.with_candidates-s.ensures)
