-- `best` keeps demand 2's law: by induction on the number of choices, each step by cases on the answer so far and on the
-- next choice's trial. Assumes nothing.
use Rattle.std.specs.Prelude.{Option, Some, None}
use mathlib.Core.Path.{◌≡◌, refl}
use mathlib.Core.Bool.{Bool, true, false, cond}
use Prim.Native.Nat.{ℕ, zero, suc, ◌≤◌, ◌<◌}
use native.Mathlib.Omega.{arith}
use borrow.Author.Count.{below_more}
use borrow.Author.Tests.{ltb-true, ltb-false}
use lib.Dec.{ltb}
use Rattle.lists.proofs.Loops.{zero_one}
use Rattle.search.specs.declared.Found.{Found}
use Rattle.search.specs.Search.{At, better_of, best}
use Rattle.search.specs.Law.{Best, Right}

module _ (trial : ℕ → Option ℕ) where
  -- what holds of the score of every fitting choice below k
  abbrev Scores : ℕ → (ℕ → Type 0) → Type 0
  Scores k P = (j t : ℕ) → j < k → trial j ≡ Some t → P t

  scores_more : (k : ℕ) (P : ℕ → Type 0) → Scores k P → ((t : ℕ) → trial k ≡ Some t → P t) → Scores (suc k) P
  scores_more k P before here j t l e =
      below_more (λ i. (u : ℕ) → trial i ≡ Some u → P u) k (λ i q u. before i u q) here j (omega arith) t e

  one_score : (k s t : ℕ) → trial k ≡ Some s → trial k ≡ Some t → s ≡ t
  one_score k s t p q = cc

  misfit_scores : (k t : ℕ) → trial k ≡ None → trial k ≡ Some t → ⊥
  misfit_scores k t p q = zero_one cc

  -- the first choice that fits
  first_found : (k s : ℕ) → trial k ≡ Some s → Right trial k None → Best trial (suc k) k s
  first_found k s e none = record {
    within = omega arith;
    fits = e;
    lowest = scores_more k (λ t. s ≤ t) (λ j t l p. absurd (none j t l p)) (λ t p. omega (arith, one_score k s t e p));
    earliest = λ j t l p. absurd (none j t l p);
  }

  -- a choice that does not fit, or scores no lower, changes nothing
  kept : (k c s : ℕ) → ((t : ℕ) → trial k ≡ Some t → s ≤ t) → Best trial k c s → Best trial (suc k) c s
  kept k c s no_lower b = record {
    within = omega (arith, b.within);
    fits = b.fits;
    lowest = scores_more k (λ t. s ≤ t) b.lowest no_lower;
    earliest = b.earliest;
  }

  -- a choice that scores lower than the best before it is the best
  overtakes : (k c s u : ℕ) → trial k ≡ Some u → u < s → Best trial k c s → Best trial (suc k) k u
  overtakes k c s u e lower b = record {
    within = omega arith;
    fits = e;
    lowest = scores_more k (λ t. u ≤ t) (λ j t l p. omega (arith, b.lowest j t l p)) (λ t p. omega (arith, one_score k u t e p));
    earliest = λ j t l p. omega (arith, b.lowest j t l p);
  }

  contest : (k c s u : ℕ) (lower : Bool) → ltb u s ≡ lower → trial k ≡ Some u → Best trial k c s → Right trial (suc k) (cond lower (At k u) (At c s))
  contest k c s u true q e b = overtakes k c s u e (ltb-true u s q) b
  contest k c s u false q e b = kept k c s (λ t p. omega (arith, one_score k u t e p, ltb-false u s q)) b

  next : (k : ℕ) (found : Option Found) (t : Option ℕ) → trial k ≡ t → Right trial k found → Right trial (suc k) (better_of found k t)
  next k None None e r = scores_more k (λ t. ⊥) r (λ t p. misfit_scores k t e p)
  next k None (Some s) e r = first_found k s e r
  next k (Some f) None e r = kept k f.choice f.score (λ t p. absurd (misfit_scores k t e p)) r
  next k (Some f) (Some u) e r = contest k f.choice f.score u (ltb u f.score) refl e r

  pub best_right : (k : ℕ) → Right trial k (best trial k)
  unfolding best
  best_right zero = λ j t l e. omega arith
  best_right (suc k) = next k (best trial k) (trial k) refl (best_right k)

  -- where nothing is found, nothing fits
  pub nothing-fits : (k : ℕ) → best trial k ≡ None → (j t : ℕ) → j < k → trial j ≡ Some t → ⊥
  nothing-fits k e = rw e at (best_right k)

  -- what is found is the best
  pub found-best : (k c s : ℕ) → best trial k ≡ At c s → Best trial k c s
  found-best k c s e = rw e at (best_right k)
