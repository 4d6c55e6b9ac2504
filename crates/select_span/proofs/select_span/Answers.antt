-- `select_span` meets its contract. The loop's invariant: `s` spans the select and the commoned lines passed. Assumes nothing.
use mathlib.Core.Path.{◌≡◌}
use Prim.Native.Nat.{ℕ, ◌+◌}
use native.Mathlib.Numerals.{add-one}
use lib.ListN.{get_or}
use Rattle.gpio.specs.declared.candidates.Candidates.{Candidates}
use Rattle.gpio.specs.declared.span.Span.{Span}
use Rattle.slot.specs.declared.description.Description.{Description}
use Rattle.select_span.specs.Selects.{widened_first, kind_candidates, select_span}
use Rattle.select_span.proofs.select_span.Goals as goal

turn : (d : Description) (k kind : ℕ) (s t : Span) (g : Candidates) → s ≡ select_span d k → kind ≡ get_or d.multi.commoned k 0 → g ≡ kind_candidates d kind
    → t ≡ widened_first s g → t ≡ select_span d (k + 1)
unfolding select_span
turn d k kind s t g e f h i = rw (i, h, f, e, add-one)

pub loop-k-init : goal.loop-k-init
unfolding select_span
loop-k-init c = rw (c.widen_first-s.ensures, c.kind_candidates.ensures, c.empty.ensures)

pub loop-k-preserved : goal.loop-k-preserved
loop-k-preserved c =
    turn _ _ _ _ _ _ c.loop-k.invariant c.commoned_kind.ensures c.kind_candidates-in-loop-k.ensures c.widen_first-s-in-loop-k.ensures
