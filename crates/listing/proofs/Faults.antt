-- The first fault of lists put together, and what its absence says of each pin. Assumes nothing.
use Rattle.std.specs.Prelude.{Option, Some, None}
use mathlib.Core.Path.{◌≡◌, refl, sym, ◌∙◌, ap}
use mathlib.Core.List.{List, [], ◌∷◌, ◌++◌}
use Prim.Native.Nat.{ℕ, zero, suc, ◌≤◌, ◌<◌}
use native.Mathlib.Nat.{le_of_suc-le-suc}
use native.Mathlib.Omega.{arith}
use lib.ListN.{length, take}
use Rattle.lists.proofs.Loops.{zero_one}
use Rattle.gpio.specs.declared.candidates.Candidates.{Candidates}
use Rattle.gpio.specs.declared.candidates.Candidates.TheVariants.{Absent, One, Two}
use Rattle.refusal.specs.declared.Refusal.{Refusal}
use Rattle.refusal.specs.First.{or_else, first_of}
use Rattle.refusal.proofs.Firsts.{or_assoc, first_head}
use Rattle.listing.specs.Choice.{pin_at}
use Rattle.listing.specs.Law.{fault_at, FirstFaultLaw}
use Rattle.listing.specs.declared.Listed.{Listed}
use Rattle.listing.specs.Listing.{fault_from, fault_of, first_fault, keep_fault}

pub fault_snoc : (f : Option Refusal) (ls : List Listed) (l : Listed) → fault_from f (ls ++ (l ∷ [])) ≡ keep_fault (fault_from f ls) l
unfolding fault_from
fault_snoc f [] l = refl
fault_snoc f (x ∷ ls) l = fault_snoc (keep_fault f x) ls l

-- a fault once found stays
found-stays : (r : Refusal) (ls : List Listed) → fault_from (Some r) ls ≡ Some r
unfolding fault_from
found-stays r [] = refl
found-stays r (l ∷ ls) = found-stays r ls

pub found_further : (ls : List Listed) (f : Option Refusal) (m n : ℕ) (r : Refusal) → m ≤ n → fault_from f (take m ls) ≡ Some r → fault_from f (take n ls) ≡ Some r
unfolding fault_from
found_further [] f zero zero r h e = e
found_further [] f zero (suc n) r h e = e
found_further [] f (suc m) zero r h e = e
found_further [] f (suc m) (suc n) r h e = e
found_further (l ∷ ls) f zero n r h e = rw e (found-stays r (take n (l ∷ ls)))
found_further (l ∷ ls) f (suc m) zero r h e = absurd (omega arith)
found_further (l ∷ ls) f (suc m) (suc n) r h e = found_further ls (keep_fault f l) m n r (le_of_suc-le-suc h) e

fault-first : (r : Refusal) (ls : List Listed) → fault_from (Some r) ls ≡ None → ⊥
fault-first r ls e =
    let f = found-stays r ls in
    zero_one cc

module _ (l : Listed) (ls : List Listed) where
  -- without a fault the first pin has candidates, and so have the others
  head_tail : (g : Candidates) → fault_from (fault_of g l.fault) ls ≡ None → (g ≡ Absent → ⊥) × (fault_from None ls ≡ None)
  head_tail Absent e = absurd (fault-first l.fault ls e)
  head_tail (One g) e = (λ q. zero_one cc, e)
  head_tail (Two g h) e = (λ q. zero_one cc, e)

-- without a fault each pin has candidates
pub no_fault_at : (ls : List Listed) → first_fault ls ≡ None → (k : ℕ) → k < length ls → pin_at ls k ≡ Absent → ⊥
unfolding fault_from
no_fault_at [] e k h q = omega arith
no_fault_at (l ∷ ls) e zero h q = (head_tail l ls l.gpios e).0 q
no_fault_at (l ∷ ls) e (suc k) h q = no_fault_at ls (head_tail l ls l.gpios e).1 k (le_of_suc-le-suc h) q

-- lists put together have no fault exactly if neither has
fault-append : (f : Option Refusal) (a b : List Listed) → fault_from f (a ++ b) ≡ fault_from (fault_from f a) b
unfolding fault_from
fault-append f [] b = refl
fault-append f (l ∷ a) b = fault-append (keep_fault f l) a b

from_none : (f : Option Refusal) (b : List Listed) → fault_from f b ≡ None → (f ≡ None) × (first_fault b ≡ None)
from_none (Some r) b e = absurd (fault-first r b e)
from_none None b e = (refl, e)

pub append-none : (a b : List Listed) → first_fault (a ++ b) ≡ None → (first_fault a ≡ None) × (first_fault b ≡ None)
append-none a b e = from_none (first_fault a) b (rw fault-append at e)

pub none-append : (a b : List Listed) → first_fault a ≡ None → first_fault b ≡ None → first_fault (a ++ b) ≡ None
none-append a b p q = rw (fault-append, p) q

-- the first fault is that of the lowest pin that has one
from_first : (f : Option Refusal) (ls : List Listed) → fault_from f ls ≡ or_else f (first_of (length ls) (fault_at ls))
unfolding fault_from first_of
from_first None [] = refl
from_first (Some r) [] = refl
from_first f (l ∷ ls) =
    from_first (keep_fault f l) ls
    ∙ or_assoc f (fault_of l.gpios l.fault) (first_of (length ls) (fault_at ls))
    ∙ ap (or_else f) (sym (first_head (length ls) (fault_at (l ∷ ls))))

pub first_fault_is : (ls : List Listed) → FirstFaultLaw ls
first_fault_is ls = from_first None ls

-- the first fault of lists put together
pub fault-joined : (a b : List Listed) → first_fault (a ++ b) ≡ or_else (first_fault a) (first_fault b)
fault-joined a b = fault-append None a b ∙ from_first (first_fault a) b ∙ ap (or_else (first_fault a)) (sym (first_fault_is b))
