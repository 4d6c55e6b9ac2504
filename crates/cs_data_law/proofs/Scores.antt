-- What GPIOs that were picked are judged, and the order of scores: preference, then total span. Assumes nothing.
use Rattle.std.specs.Prelude.{Option}
use mathlib.Core.Path.{◌≡◌, refl}
use mathlib.Core.Bool.{Bool, true, false, cond}
use mathlib.Core.Logic.{◌⊎◌, inl, inr}
use Prim.Native.Nat.{ℕ, ◌+◌, ◌-◌, ◌*◌, ◌≤◌, ◌<◌}
use native.Mathlib.Nat.{eq-or-lt_of_le}
use native.Mathlib.Omega.{arith}
use lib.ListN.{length}
use Rattle.lists.proofs.Loops.{zero_one}
use Rattle.gpio.specs.Set.{width, gapless}
use Rattle.gpio.proofs.Sets.{set_cong}
use Rattle.slot.specs.Description.{is_multi}
use Rattle.slot.specs.declared.description.Description.{Description}
use Rattle.listing.specs.Law.{Makes}
use Rattle.cs_pins.specs.Pins.{numbered}
use Rattle.cs_verdict.specs.Verdict.{selectable, in_one_window, verdict_of}
use Rattle.cs_verdict.specs.declared.Verdict.{Verdict}
use Rattle.cs_verdict.specs.declared.Verdict.TheVariants.{DataGap, SelectGap, OutsideWindow, Fits}
use Rattle.cs_data_layout.specs.Layout.{handed}
use Rattle.cs_data_layout.specs.Choices.{num_data, qualifier_set, cs_verdict}
use Rattle.addr_layout.specs.declared.layout.AddrLayout.{AddrLayout}
use Rattle.cs_data_law.specs.Law.{choice, data_picked, select_picked, all_picked, Fit, SelectRefused, preference, total_span, NoWorse, Sees}
use Rattle.cs_data_law.proofs.Counts.{numbered-length}

-- a verdict that fits is past each test, and has its score
judged : (x y z : Bool) (s t u : ℕ) → cond x (cond y (cond z (Fits s) OutsideWindow) (SelectGap u)) DataGap ≡ Fits t
    → (x ≡ true) × (y ≡ true) × (z ≡ true) × (t ≡ s)
judged true true true s t u e = (refl, refl, refl, cc)
judged true true false s t u e = absurd (zero_one cc)
judged true false z s t u e = absurd (zero_one cc)
judged false y z s t u e = absurd (zero_one cc)

-- one that refuses the select set is past the first test only, and has that set
judged-gap : (x y z : Bool) (s t u : ℕ) → cond x (cond y (cond z (Fits s) OutsideWindow) (SelectGap u)) DataGap ≡ SelectGap t
    → (x ≡ true) × (y ≡ false) × (t ≡ u)
judged-gap true true true s t u e = absurd (zero_one cc)
judged-gap true true false s t u e = absurd (zero_one cc)
judged-gap true false z s t u e = (refl, refl, cc)
judged-gap false y z s t u e = absurd (zero_one cc)

-- the preference decides, and among equals the span
module _ (p v q w : ℕ) (lv : v < 1000) (lw : w < 1000) where
  score_order : p * 1000 + v ≤ q * 1000 + w → (p < q) ⊎ ((p ≡ q) × (v ≤ w))
  score_order l = let most : p ≤ q = omega arith in elim (eq-or-lt_of_le most) [
    | inl e ↦ inr (e, omega arith)
    | inr h ↦ inl h
  ]

  order_score : (p < q) ⊎ ((p ≡ q) × (v ≤ w)) → p * 1000 + v ≤ q * 1000 + w
  order_score (inl h) = omega arith
  order_score (inr (e, h)) = omega arith

-- no set of GPIOs is wider than 64
width-most : (s : ℕ) → width s ≤ 64
width-most s = omega arith

module _ (d : Description) (a : Option AddrLayout) where
  -- the verdict on GPIOs that were picked, and their score
  abbrev pub verdict_by : (ℕ → ℕ) → Verdict
  verdict_by pick = verdict_of (is_multi d.set_type) (qualifier_set d (handed a)) (data_picked d pick) (select_picked d a pick)

  abbrev pub score_by : (ℕ → ℕ) → ℕ
  score_by pick = preference d a pick * 1000 + total_span d a pick

  -- what a choice comes to is the verdict on the GPIOs that it takes
  pub judged-at : (c : ℕ) → cs_verdict d (handed a) c ≡ verdict_by (choice d c)
  judged-at c = refl

  module _ (pick : ℕ → ℕ) where
    abbrev data_test : Bool
    data_test = gapless (data_picked d pick)

    abbrev select_test : Bool
    select_test = selectable (is_multi d.set_type) (select_picked d a pick)

    abbrev window_test : Bool
    window_test = in_one_window (all_picked d a pick)

    -- they fit exactly if the verdict is that they do
    pub verdict-fit : (s : ℕ) → verdict_by pick ≡ Fits s → Fit d a pick × (s ≡ score_by pick)
    unfolding verdict_of
    verdict-fit s e =
        let (x, y, z, q) = judged data_test select_test window_test (score_by pick) s (select_picked d a pick) e in
        (record { data-gapless = x; select-gap = y; window = z }, q)

    pub fit-verdict : Fit d a pick → verdict_by pick ≡ Fits (score_by pick)
    unfolding verdict_of
    fit-verdict f = rw (f.data-gapless, f.select-gap, f.window)

    -- and likewise their select set is refused
    pub verdict-refused : (s : ℕ) → verdict_by pick ≡ SelectGap s → SelectRefused d a pick × (s ≡ select_picked d a pick)
    unfolding verdict_of
    verdict-refused s e =
        let (x, y, q) = judged-gap data_test select_test window_test (score_by pick) s (select_picked d a pick) e in
        (record { data-gapless = x; select-gap = y }, q)

    pub refused-verdict : SelectRefused d a pick → verdict_by pick ≡ SelectGap (select_picked d a pick)
    unfolding verdict_of
    refused-verdict r = rw (r.data-gapless, r.select-gap)

  -- a lower score is no worse, and the other way
  module _ (p q : ℕ → ℕ) where
    pub score_worse : score_by p ≤ score_by q → NoWorse d a p q
    score_worse =
        score_order (preference d a p) (total_span d a p) (preference d a q) (total_span d a q)
        (omega (arith, width-most (all_picked d a p))) (omega (arith, width-most (all_picked d a q)))

    pub worse_score : NoWorse d a p q → score_by p ≤ score_by q
    worse_score =
        order_score (preference d a p) (total_span d a p) (preference d a q) (total_span d a q)
        (omega (arith, width-most (all_picked d a p))) (omega (arith, width-most (all_picked d a q)))

  -- choice c takes the GPIOs that were picked
  module _ (c : ℕ) (pick : ℕ → ℕ) (made : Makes (numbered d) c pick) where
    same-data : data_picked d (choice d c) ≡ data_picked d pick
    same-data = set_cong (num_data d) (choice d c) pick (λ k l. made k (omega (arith, numbered-length d)))

    same-selects : select_picked d a (choice d c) ≡ select_picked d a pick
    same-selects =
        rw (set_cong (length (numbered d) - num_data d) (λ k. choice d c (num_data d + k)) (λ k. pick (num_data d + k)) (λ k l. made (num_data d + k) (omega arith)))

    pub fits_too : Fit d a pick → Fit d a (choice d c)
    fits_too f = record { data-gapless = rw same-data f.data-gapless; select-gap = rw same-selects f.select-gap; window = rw (same-data, same-selects) f.window }

    pub refused_too : SelectRefused d a pick → SelectRefused d a (choice d c)
    refused_too r = record { data-gapless = rw same-data r.data-gapless; select-gap = rw same-selects r.select-gap }

    pub sees_too : Sees d a pick → Sees d a (choice d c)
    sees_too s = record { refused = refused_too s.refused; some = rw same-selects s.some }

    pub scores_too : score_by (choice d c) ≡ score_by pick
    scores_too = rw (same-data, same-selects)
