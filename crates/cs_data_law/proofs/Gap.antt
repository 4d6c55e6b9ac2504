-- The gap of a set in which at most one GPIO is missing. Assumes nothing.
use mathlib.Core.Path.{◌≡◌, refl, sym, subst}
use mathlib.Core.Bool.{Bool, true, false}
use mathlib.Core.Logic.{◌⊎◌, inl, inr}
use Prim.Native.Nat.{ℕ, zero, suc, ◌+◌, ◌-◌, ◌^◌, ◌≤◌, ◌<◌}
use native.Mathlib.Nat.{lt_of_not-le}
use native.Mathlib.Omega.{arith}
use lib.Bits.{or_lt}
use lib.Dec.{ltb, eqb}
use lib.Pow.{pow-lt}
use borrow.Author.Tests.{eq-eqb, eqb-true, eqb-false, ltb-true, ltb-false}
use Rattle.lists.proofs.Loops.{zero_one}
use Rattle.bits.proofs.Or.{bit_or_lem}
use Rattle.gpio.specs.Law.{In, SetLaw}
use Rattle.gpio.specs.Set.{with, lowest, end, width, size, gapless, gap}
use Rattle.gpio.proofs.Gaps.{set_law}
use Rattle.gpio.proofs.Members.{held, held_left, held_other, held_low, lowest-held, with_size}

-- a GPIO is in a set or it is not
digit_or : (x : ℕ) → x < 2 → (x ≡ 1) ⊎ (x ≡ 0)
digit_or zero l = inr refl
digit_or (suc zero) l = inl refl
digit_or (suc (suc x)) l = absurd (omega arith)

pub in_or_out : (s g : ℕ) → In s g ⊎ (held s g ≡ 0)
in_or_out s g = digit_or (held s g) (omega arith)

-- a set that has a GPIO
module _ (s one : ℕ) (small : s < 2 ^ 64) (has : In s one) where
  law : SetLaw s
  law = set_law s small

  pub lowest_has : In s (lowest s)
  lowest_has = law.lowest_in one has

  pub highest_has : In s (end s - 1)
  highest_has = law.highest_in one has

  pub not-empty : lowest s < end s
  not-empty = law.highest-most (lowest s) lowest_has

  -- what is not in the set, from the lowest to the highest, is in its gap
  out_gap : (g : ℕ) → lowest s ≤ g → g < end s → (In s g → ⊥) → In (gap s) g
  out_gap g l m n =
      law.between-gap g (lt_of_not-le (λ (h : g ≤ lowest s). let q : g ≡ lowest s = omega arith in n (subst (In s) (sym q) lowest_has)))
      (lt_of_not-le (λ (h : end s ≤ g + 1). let q : g ≡ end s - 1 = omega arith in n (subst (In s) (sym q) highest_has))) n

  -- a set has no gap exactly if it has every GPIO from its lowest to its highest
  pub gapless-all : gapless s ≡ true → (g : ℕ) → lowest s ≤ g → g < end s → In s g
  gapless-all e g l m = elim (in_or_out s g) [
    | inl h ↦ h
    | inr z ↦ absurd (law.gapless-none e g (out_gap g l m (λ h. omega (arith, z, h))))
  ]

  pub all-gapless : ((g : ℕ) → lowest s ≤ g → g < end s → In s g) → gapless s ≡ true
  all-gapless f = law.none-gapless (λ g e. let (l, m, n) = law.gap-between g e in n (f g (omega arith) (omega arith)))

  -- else its gap has a lowest GPIO
  pub gap-lowest : gapless s ≡ false → In (gap s) (lowest (gap s))
  gap-lowest e = by (ltb (lowest (gap s)) 64) refl
    where
      by : (t : Bool) → ltb (lowest (gap s)) 64 ≡ t → In (gap s) (lowest (gap s))
      by true q = lowest-held (gap s) (ltb-true (lowest (gap s)) 64 q)
      by false q =
          let none : gapless s ≡ true = law.none-gapless (λ g h. let (l, m, n) = law.gap-between g h in omega (arith, held_low (gap s) g h, ltb-false (lowest (gap s)) 64 q)) in
          absurd (zero_one cc)

  pub gap-between : (g : ℕ) → In (gap s) g → (lowest s < g) × (g + 1 < end s) × (In s g → ⊥)
  gap-between = law.gap-between

  -- with a GPIO of its gap the set spans what it spanned
  module _ (g : ℕ) (e : In (gap s) g) where
    abbrev more : ℕ
    more = with s g

    more_bits : more < 2 ^ 64
    more_bits = or_lt 64 s (2 ^ g) small (pow-lt {j = 64} (omega (arith, law.gap-between g e)))

    more_law : SetLaw more
    more_law = set_law more more_bits

    in_more : (x : ℕ) → In s x → In more x
    in_more x h = held_left s (2 ^ g) x h

    more_in : (x : ℕ) → (g ≡ x → ⊥) → In more x → In s x
    more_in x n h = omega (arith, rw (bit_or_lem, held_other g x n) at h)

    more_inside : (x : ℕ) → In more x → (lowest s ≤ x) × (x < end s)
    more_inside x h = by (eqb g x) refl
      where
        by : (t : Bool) → eqb g x ≡ t → (lowest s ≤ x) × (x < end s)
        by true q = let (l, m, n) = law.gap-between g e in (omega (arith, eqb-true g x q), omega (arith, eqb-true g x q))
        by false q = let i = more_in x (eqb-false g x q) h in (law.lowest_least x i, law.highest-most x i)

    same_ends : (lowest more ≡ lowest s) × (end more ≡ end s)
    same_ends =
        let low = more_law.lowest_least (lowest s) (in_more (lowest s) lowest_has) in
        let high = more_law.highest-most (end s - 1) (in_more (end s - 1) highest_has) in
        let l = more_inside (lowest more) (more_law.lowest_in one (in_more one has)) in
        let h = more_inside (end more - 1) (more_law.highest_in one (in_more one has)) in
        (omega arith, omega (arith, not-empty))

    out : held s g ≡ 0
    out = elim (in_or_out s g) [
      | inl h ↦ absurd ((law.gap-between g e).2 h)
      | inr z ↦ z
    ]

    -- so that it has no gap, if it was the only one missing
    pub single : width s ≡ size s + 1 → (h : ℕ) → lowest s ≤ h → h < end s → (h ≡ g → ⊥) → In s h
    single w h l m n =
        let (low, high) = same_ends in
        let whole = eq-eqb (width more) (size more) (omega (arith, with_size s g out)) in
        elim (in_or_out s h) [
          | inl i ↦ i
          | inr z ↦
              let (p, q, o) = law.gap-between h (out_gap h l m (λ i. omega (arith, z, i))) in
              absurd (more_law.gapless-none whole h (more_law.between-gap h (omega arith) (omega arith) (λ i. o (more_in h (λ r. n (sym r)) i))))
        ]
