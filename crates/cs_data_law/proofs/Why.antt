-- What the first ignored GPIO seen and the last refused set are: by induction on the number of choices. Assumes nothing.
use Rattle.std.specs.Prelude.{Option, Some, None}
use Rattle.refusal.specs.declared.Refusal.{Refusal}
use mathlib.Core.Path.{◌≡◌, refl}
use mathlib.Core.Bool.{Bool, true, false, cond}
use Prim.Native.Nat.{ℕ, zero, suc, ◌<◌}
use native.Mathlib.Omega.{arith}
use lib.Bits.{bit_and}
use lib.Dec.{eqb}
use borrow.Author.Count.{below_more}
use borrow.Author.Tests.{eqb-true, eqb-false}
use Rattle.lists.proofs.Loops.{zero_one}
use Rattle.gpio.specs.Set.{lowest, gap}
use Rattle.refusal.specs.declared.Refusal.TheVariants.{NonContiguousSelect, InteriorIgnoredLine}
use Rattle.refusal.specs.First.{or_else}
use Rattle.cs_choices.specs.Nothing.{interior_of, interior, refused_of, last_refused}
use Rattle.cs_verdict.specs.declared.Verdict.{Verdict}
use Rattle.cs_verdict.specs.declared.Verdict.TheVariants.{DataGap, SelectGap, OutsideWindow, Fits}

one-gap : (v : Verdict) (s t : ℕ) → v ≡ SelectGap s → v ≡ SelectGap t → s ≡ t
one-gap v s t p q = cc

module _ (verdict : ℕ → Verdict) where
  -- what holds of the refused set of every choice below k
  abbrev pub Sets : ℕ → (ℕ → Type 0) → Type 0
  Sets k P = (j t : ℕ) → j < k → verdict j ≡ SelectGap t → P t

  sets_more : (k : ℕ) (P : ℕ → Type 0) → Sets k P → ((t : ℕ) → verdict k ≡ SelectGap t → P t) → Sets (suc k) P
  sets_more k P before here j t l e =
      below_more (λ i. (u : ℕ) → verdict i ≡ SelectGap u → P u) k (λ i q u. before i u q) here j (omega arith) t e

  -- the last refused set
  abbrev pub LastIs : ℕ → Option Refusal → Type 0
  LastIs k None = Sets k (λ t. ⊥)
  LastIs k (Some r) =
      (c : ℕ) × (s : ℕ) × (c < k) × (verdict c ≡ SelectGap s) × ((j t : ℕ) → c < j → j < k → verdict j ≡ SelectGap t → ⊥)
      × (r ≡ NonContiguousSelect (record { bits = s }))

  -- a choice whose set is not refused changes nothing
  last-kept : (k : ℕ) (f : Option Refusal) → ((t : ℕ) → verdict k ≡ SelectGap t → ⊥) → LastIs k f → LastIs (suc k) f
  last-kept k None other r = sets_more k (λ t. ⊥) r other
  last-kept k (Some w) other (c, s, l, e, later, q) =
      (c, s, omega arith, e, λ j t h m. below_more (λ i. c < i → (u : ℕ) → verdict i ≡ SelectGap u → ⊥) k (λ i o n u. later i u n o) (λ n u. other u) j (omega arith) h t, q)

  last_next : (k : ℕ) (f : Option Refusal) (v : Verdict) → verdict k ≡ v → LastIs k f → LastIs (suc k) (or_else (refused_of v) f)
  last_next k f DataGap e r = last-kept k f (λ t q. zero_one cc) r
  last_next k f (SelectGap s) e r = (k, s, omega arith, e, λ j t l h q. absurd (omega arith), refl)
  last_next k f OutsideWindow e r = last-kept k f (λ t q. zero_one cc) r
  last_next k f (Fits t) e r = last-kept k f (λ t q. zero_one cc) r

  pub last_is : (k : ℕ) → LastIs k (last_refused verdict k)
  unfolding last_refused
  last_is zero = λ j t l e. omega arith
  last_is (suc k) = last_next k (last_refused verdict k) (verdict k) refl (last_is k)

  module _ (ignored : ℕ) where
    abbrev pub seen : ℕ → ℕ
    seen s = bit_and (gap s) ignored

    -- the first ignored GPIO seen in a refused gap
    abbrev pub FirstIs : ℕ → Option Refusal → Type 0
    FirstIs k None = Sets k (λ t. seen t ≡ 0)
    FirstIs k (Some r) =
        (c : ℕ) × (s : ℕ) × (c < k) × (verdict c ≡ SelectGap s) × (seen s ≡ 0 → ⊥) × Sets c (λ t. seen t ≡ 0)
        × (r ≡ InteriorIgnoredLine (lowest (seen s)))

    first_here : (k s : ℕ) (t : Bool) → eqb (seen s) 0 ≡ t → verdict k ≡ SelectGap s → FirstIs k None
        → FirstIs (suc k) (cond t None (Some (InteriorIgnoredLine (lowest (seen s)))))
    first_here k s true q e r = sets_more k (λ t. seen t ≡ 0) r (λ t p. rw (one-gap (verdict k) t s p e) (eqb-true (seen s) 0 q))
    first_here k s false q e r = (k, s, omega arith, e, eqb-false (seen s) 0 q, r, refl)

    first_next : (k : ℕ) (f : Option Refusal) (v : Verdict) → verdict k ≡ v → FirstIs k f → FirstIs (suc k) (or_else f (interior_of ignored v))
    first_next k (Some w) v e (c, s, l, g, some, before, q) = (c, s, omega arith, g, some, before, q)
    first_next k None DataGap e r = sets_more k (λ t. seen t ≡ 0) r (λ t q. absurd (zero_one cc))
    first_next k None (SelectGap s) e r = first_here k s (eqb (seen s) 0) refl e r
    first_next k None OutsideWindow e r = sets_more k (λ t. seen t ≡ 0) r (λ t q. absurd (zero_one cc))
    first_next k None (Fits u) e r = sets_more k (λ t. seen t ≡ 0) r (λ t q. absurd (zero_one cc))

    pub first_is : (k : ℕ) → FirstIs k (interior ignored verdict k)
    unfolding interior
    first_is zero = λ j t l e. absurd (omega arith)
    first_is (suc k) = first_next k (interior ignored verdict k) (verdict k) refl (first_is k)
