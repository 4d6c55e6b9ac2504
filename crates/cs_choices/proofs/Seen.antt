-- What is seen of all choices says why nothing fits. Assumes nothing.
use Rattle.std.specs.Prelude.{Option, Some, None}
use mathlib.Core.Path.{◌≡◌, refl}
use mathlib.Core.Bool.{Bool, true, false, cond}
use mathlib.Core.List.{List}
use Prim.Native.Nat.{ℕ, zero, suc}
use lib.Count.{ones, count_leading_zeros, count_trailing_zeros}
use lib.Dec.{eqb}
use borrow.Author.Tests.{eqb-true}
use Rattle.lists.proofs.Loops.{zero_one}
use Rattle.gpio.specs.Set.{lowest, gapless}
use Rattle.refusal.specs.declared.Refusal.{Refusal}
use Rattle.refusal.specs.declared.Refusal.TheVariants.{NonContiguousSelect, InteriorIgnoredLine}
use Rattle.refusal.specs.First.{or_else}
use Rattle.listing.specs.declared.Listed.{Listed}
use Rattle.cs_choices.specs.Sets.{verdict_on}
use Rattle.cs_verdict.specs.Verdict.{selectable, all_of, in_one_window, score_of, verdict_of}
use Rattle.cs_choices.specs.Nothing.{interior_in, interior_of, interior, refused_of, last_refused, nothing_fits}
use Rattle.cs_choices.specs.Design.Seen.{or_set, interior_set, refused_set, refused_in, none_seen, seen_onward}
use Rattle.cs_choices.specs.declared.choices.Fixed.{Fixed}
use Rattle.cs_choices.specs.declared.nothing.Seen.{Seen}
use Rattle.cs_verdict.specs.declared.Verdict.{Verdict}
use Rattle.cs_verdict.specs.declared.Verdict.TheVariants.{DataGap, SelectGap, OutsideWindow, Fits}

-- the first of two faults is that of the first of two sets
module _ (refusal : ℕ → Refusal) (s t : ℕ) where
  abbrev fault_of : ℕ → Option Refusal
  fault_of x = cond (eqb x 0) None (Some (refusal x))

  by_empty : (empty : Bool) → eqb s 0 ≡ empty → or_else (fault_of s) (fault_of t) ≡ fault_of (or_set s t)
  by_empty true e = rw e
  by_empty false e = rw (e, e)

  or_fault : or_else (fault_of s) (fault_of t) ≡ fault_of (or_set s t)
  or_fault = by_empty (eqb s 0) refl

interior_by_set : (ignored : ℕ) (v : Verdict) → interior_of ignored v ≡ interior_in (interior_set ignored v)
interior_by_set ignored DataGap = refl
interior_by_set ignored (SelectGap s) = refl
interior_by_set ignored OutsideWindow = refl
interior_by_set ignored (Fits score) = refl

-- a refused set has a GPIO: the empty one has no gap
some-refused : (multi : Bool) (s : ℕ) (empty : Bool) → eqb s 0 ≡ empty → selectable multi s ≡ false → eqb s 0 ≡ false
unfolding ones count_leading_zeros count_trailing_zeros
some-refused multi s false e h = e
some-refused multi s true e h =
    let none : selectable multi 0 ≡ false = rw (eqb-true s 0 e) at h in
    absurd (zero_one (cc none))

-- the verdict by its three tests
refused-judged : (x y z : Bool) (s score : ℕ) → (y ≡ false → eqb s 0 ≡ false) → let v = cond x (cond y (cond z (Fits score) OutsideWindow) (SelectGap s)) DataGap in refused_of v ≡ refused_in (refused_set v)
refused-judged false y z s score h = refl
refused-judged true true true s score h = refl
refused-judged true true false s score h = refl
refused-judged true false z s score h = rw (h refl)

refused_by_set : (multi : Bool) (q d s : ℕ) → refused_of (verdict_of multi q d s) ≡ refused_in (refused_set (verdict_of multi q d s))
unfolding verdict_of
refused_by_set multi q d s =
    refused-judged (gapless d) (selectable multi s) (in_one_window (all_of d s q)) s (score_of s q (all_of d s q)) (some-refused multi s (eqb s 0) refl)

module _ (ls : List Listed) (f : Fixed) (ignored : ℕ) where
  -- what the choices below k show
  abbrev pub shown : ℕ → Seen
  shown k = seen_onward ignored none_seen (verdict_on ls f) k

  interior-shown : (k : ℕ) → interior ignored (verdict_on ls f) k ≡ interior_in (shown k).interior
  unfolding interior seen_onward
  interior-shown zero = refl
  interior-shown (suc k) =
      rw (interior-shown k, interior_by_set ignored (verdict_on ls f k)) (or_fault (λ x. InteriorIgnoredLine (lowest x)) (shown k).interior (interior_set ignored (verdict_on ls f k)))

  refused-shown : (k : ℕ) → last_refused (verdict_on ls f) k ≡ refused_in (shown k).refused
  unfolding last_refused seen_onward
  refused-shown zero = refl
  refused-shown (suc k) =
      rw (refused-shown k, refused_by_set _ _ _ _) (or_fault (λ x. NonContiguousSelect (record { bits = x })) (refused_set (verdict_on ls f k)) (shown k).refused)

  pub why-shown : (k : ℕ) → nothing_fits ignored (verdict_on ls f) k ≡ or_else (interior_in (shown k).interior) (refused_in (shown k).refused)
  why-shown k = rw (interior-shown k, refused-shown k)
