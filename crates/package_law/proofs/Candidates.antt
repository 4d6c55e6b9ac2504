-- The test of a board's candidates passes just where none is above the last GPIO. Assumes nothing.
use mathlib.Core.Path.{◌≡◌, refl}
use mathlib.Core.Bool.{Bool, true, false, ◌&&◌}
use mathlib.Core.Logic.{inl, inr}
use Prim.Native.Nat.{ℕ, zero, suc, ◌≤◌, ◌<◌}
use native.Mathlib.Omega.{arith}
use lib.Dec.{leb}
use lib.ListN.{get_or}
use borrow.Author.Tests.{leb-true, leb-false, le-leb}
use Rattle.lists.specs.Each.{each}
use Rattle.lists.proofs.Bools.{and_left, and_right, both}
use Rattle.lists.proofs.Each.{each_at, each_all}
use Rattle.lists.proofs.Loops.{zero_one}
use Rattle.gpio.specs.Candidates.{none_above}
use Rattle.gpio.specs.declared.candidates.Candidates.{Candidates}
use Rattle.gpio.specs.declared.candidates.Candidates.TheVariants.{Absent, One, Two}
use Rattle.slot.specs.Description.{no_pin}
use Rattle.slot.specs.declared.description.Board.{Board}
use Rattle.domain.specs.Domain.{no_candidate_above}
use Rattle.listing.specs.Choice.{CandidateOf}
use Rattle.package_law.specs.Law.{CandidateOn, CandidatesLaw}
use Rattle.package_law.specs.Law.CandidateOn.{socket, x1, x2}

pin_is : (last : ℕ) (c : Candidates) → none_above last c ≡ true → (g : ℕ) → CandidateOf c g → g ≤ last
pin_is last Absent h g e = elim e [ ]
pin_is last (One a) h g e = rw e (leb-true a last h)
pin_is last (Two a b) h g (inl e) = let (first, second) = both _ _ h in rw e (leb-true a last first)
pin_is last (Two a b) h g (inr e) = let (first, second) = both (leb a last) _ h in rw e (leb-true b last second)

pin_if : (last : ℕ) (c : Candidates) → ((g : ℕ) → CandidateOf c g → g ≤ last) → none_above last c ≡ true
pin_if last Absent h = refl
pin_if last (One a) h = le-leb a last (h a refl)
pin_if last (Two a b) h = rw (le-leb a last (h a (inl refl)), le-leb b last (h b (inr refl)))

-- where not each of n passes there is one that fails

abbrev Failing : (ℕ → Bool) → ℕ → Type 0
Failing p n = (k : ℕ) × (k < n) × (p k ≡ false)

one_more : (p : ℕ → Bool) (n : ℕ) → (each n p ≡ false → Failing p n) → (a t : Bool) → each n p ≡ a → p n ≡ t → a && t ≡ false → Failing p (suc n)
one_more p n before a false h q e = (n, omega arith, q)
one_more p n before false true h q e = let (k, l, f) = before h in (k, omega arith, f)
one_more p n before true true h q e = absurd (zero_one cc)

failing : (p : ℕ → Bool) (n : ℕ) → each n p ≡ false → Failing p n
unfolding each
failing p zero e = absurd (zero_one cc)
failing p (suc n) e = one_more p n (failing p n) (each n p) (p n) refl refl e

pin-above : (last : ℕ) (c : Candidates) → none_above last c ≡ false → (g : ℕ) × CandidateOf c g × (last < g)
pin-above last Absent h = absurd (zero_one cc)
pin-above last (One a) h = (a, refl, leb-false a last h)
pin-above last (Two a b) h = of_two (leb a last) (leb b last) refl refl h where
  of_two : (s t : Bool) → leb a last ≡ s → leb b last ≡ t → s && t ≡ false → (g : ℕ) × CandidateOf (Two a b) g × (last < g)
  of_two false t p q e = (a, inl refl, leb-false a last p)
  of_two true false p q e = (b, inr refl, leb-false b last q)
  of_two true true p q e = absurd (zero_one cc)

module _ (b : Board) (last : ℕ) where
  abbrev places : Bool
  places = each 40 (λ k. none_above last (get_or b.socket k no_pin).gpios)

  none_if : ((g : ℕ) → CandidateOn b g → g ≤ last) → no_candidate_above last b ≡ true
  unfolding no_candidate_above
  none_if h =
      rw (
        each_all (λ k. none_above last (get_or b.socket k no_pin).gpios) 40 (λ k l. pin_if last (get_or b.socket k no_pin).gpios (λ g e. h g (socket k l e))),
        pin_if last b.x1 (λ g e. h g (x1 e)),
        pin_if last b.x2 (λ g e. h g (x2 e)),
      )

  none_is : no_candidate_above last b ≡ true → (g : ℕ) → CandidateOn b g → g ≤ last
  unfolding no_candidate_above
  none_is h g (socket k l e) =
      let pins = and_left places _ (and_left (places && none_above last b.x1) _ h) in
      pin_is last (get_or b.socket k no_pin).gpios (each_at _ 40 pins k l) g e
  none_is h g (x1 e) = pin_is last b.x1 (and_right places _ (and_left (places && none_above last b.x1) _ h)) g e
  none_is h g (x2 e) = pin_is last b.x2 (and_right (places && none_above last b.x1) _ h) g e

  -- where the test fails a candidate is above
  some-above : no_candidate_above last b ≡ false → (g : ℕ) × CandidateOn b g × (last < g)
  unfolding no_candidate_above
  some-above h = of_three places (none_above last b.x1) (none_above last b.x2) refl refl refl h where
    of_three : (s t u : Bool) → places ≡ s → none_above last b.x1 ≡ t → none_above last b.x2 ≡ u → s && t && u ≡ false → (g : ℕ) × CandidateOn b g × (last < g)
    of_three false t u p q r e =
        let (k, l, f) = failing _ 40 p in
        let (g, c, m) = pin-above last (get_or b.socket k no_pin).gpios f in
        (g, socket k l c, m)
    of_three true false u p q r e = let (g, c, m) = pin-above last b.x1 q in (g, x1 c, m)
    of_three true true false p q r e = let (g, c, m) = pin-above last b.x2 r in (g, x2 c, m)
    of_three true true true p q r e = absurd (zero_one cc)

  -- no candidate is above, or one is
  pub either_way : {P : Type 0} → (((g : ℕ) → CandidateOn b g → g ≤ last) → P) → ((g : ℕ) → CandidateOn b g → last < g → P) → P
  either_way {P} none some = by (no_candidate_above last b) refl where
    by : (t : Bool) → no_candidate_above last b ≡ t → P
    by true q = none (none_is q)
    by false q = let (g, e, l) = some-above q in some g e l

  pub candidates_law : CandidatesLaw b last
  candidates_law = record { none_is = none_is; none_if = none_if }
