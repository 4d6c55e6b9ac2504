-- The choice numbers are the choices of candidates, one each. Assumes nothing.
use Rattle.std.specs.Prelude.{None}
use mathlib.Core.Path.{◌≡◌, refl, sym, ◌∙◌, ap}
use mathlib.Core.Bool.{Bool, true, false, cond, ◌&&◌}
use mathlib.Core.List.{List, [], ◌∷◌}
use mathlib.Core.Logic.{inl, inr}
use Prim.Native.Nat.{ℕ, zero, suc, ◌+◌, ◌*◌, ◌/◌, ◌%◌, ◌^◌, ◌<◌}
use native.Mathlib.Nat.{zero-add}
use native.Mathlib.Omega.{arith}
use lib.Dec.{eqb}
use lib.Pow.{pow-add}
use borrow.Author.Tests.{eq-eqb, ne_eqb, eqb-true, eqb-false, not-true}
use Rattle.lists.proofs.Bools.{and_right}
use Rattle.gpio.specs.Candidates.{two, gpio_in, candidates_in}
use Rattle.gpio.specs.declared.candidates.Candidates.{Candidates}
use Rattle.gpio.specs.declared.candidates.Candidates.TheVariants.{Absent, One, Two}
use Rattle.listing.specs.Choice.{low_bit, chosen, left_by, CandidateOf, pin_at, rest_at, gpio_at, GpiosIn, bit_of}
use Rattle.listing.specs.Law.{Assigned, Makes, Numbers}
use Rattle.listing.specs.Listing.{count, twos, first_fault}
use Rattle.listing.specs.declared.Listed.{Listed}
use Rattle.listing.proofs.Candidate.{candidate-at}
use Rattle.listing.proofs.Faults.{no_fault_at}
use Rattle.listing.proofs.Parts.{rest_is}

-- the first pin takes its bit, and leaves the number of the others
module _ (l : Listed) (ls : List Listed) (c : ℕ) where
  rest_cons : (k : ℕ) → rest_at (l ∷ ls) c (suc k) ≡ rest_at ls (left_by l.gpios c) k
  unfolding rest_at
  rest_cons zero = refl
  rest_cons (suc k) = ap (left_by (pin_at ls k)) (rest_cons k)

  gpio_cons : (k : ℕ) → gpio_at (l ∷ ls) c (suc k) ≡ gpio_at ls (left_by l.gpios c) k
  unfolding gpio_at
  gpio_cons k = ap (chosen (pin_at ls k)) (rest_cons k)

-- a number c that gives a pin with candidates f the GPIO x, and leaves n to the pins after it
record Put (f : Candidates) (x n c : ℕ) : Type 0 where
  takes : chosen f c ≡ x
  leaves : left_by f c ≡ n
  fits : (m : ℕ) → n < 2 ^ m → c < 2 ^ (count (two f) + m)

put : (f : Candidates) (x n : ℕ) → CandidateOf f x → (c : ℕ) × Put f x n c
put Absent x n e = absurd e
put (One g) x n e = (n, record { takes = sym e; leaves = refl; fits = λ m h. rw zero-add h })
put (Two g h) x n (inl e) =
    (n * 2, record { takes = rw (eq-eqb (low_bit (n * 2)) 0 (omega arith)) (sym e); leaves = omega arith; fits = λ m h. rw pow-add (omega arith) })
put (Two g h) x n (inr e) =
    (n * 2 + 1, record { takes = rw (ne_eqb (low_bit (n * 2 + 1)) 0 (omega arith)) (sym e); leaves = omega arith; fits = λ m h. rw pow-add (omega arith) })

-- a number makes this choice of candidates
abbrev Made : List Listed → (ℕ → ℕ) → Type 0
Made ls pick = (c : ℕ) × (c < 2 ^ twos ls) × Makes ls c pick

makes_cons : (l : Listed) (ls : List Listed) (pick : ℕ → ℕ) (n c : ℕ) → Put l.gpios (pick 0) n c → Makes ls n (λ k. pick (suc k)) → Makes (l ∷ ls) c pick
unfolding gpio_at rest_at
makes_cons l ls pick n c p m zero h = p.takes
makes_cons l ls pick n c p m (suc k) h = gpio_cons l ls c k ∙ ap (λ (x : ℕ). gpio_at ls x k) p.leaves ∙ m k (omega arith)

made_cons : (l : Listed) (ls : List Listed) (pick : ℕ → ℕ) → CandidateOf l.gpios (pick 0) → Made ls (λ k. pick (suc k)) → Made (l ∷ ls) pick
unfolding twos
made_cons l ls pick a (n, h, m) =
    let (c, p) = put l.gpios (pick 0) n a in
    (c, p.fits (twos ls) h, makes_cons l ls pick n c p m)

all_made : (ls : List Listed) (pick : ℕ → ℕ) → Assigned ls pick → Made ls pick
unfolding twos
all_made [] pick a = (0, omega arith, λ k h. absurd (omega arith))
all_made (l ∷ ls) pick a = made_cons l ls pick (a 0 (omega arith)) (all_made ls (λ k. pick (suc k)) (λ k h. a (suc k) (omega arith)))

-- what a pin leaves of a number below 2^(two-candidate pins)
left_fits : (f : Candidates) (m c : ℕ) → c < 2 ^ (count (two f) + m) → left_by f c < 2 ^ m
left_fits Absent m c h = rw zero-add at h
left_fits (One g) m c h = rw zero-add at h
left_fits (Two g h) m c l = let e : c < 2 ^ 1 * 2 ^ m = rw pow-add at l in omega arith

-- the bit that a pin takes is told from its GPIO
bit-told : (g h b c : ℕ) (s t : Bool) → (g ≡ h → ⊥) → eqb (low_bit b) 0 ≡ s → eqb (low_bit c) 0 ≡ t → cond s g h ≡ cond t g h → b % 2 ≡ c % 2
bit-told g h b c true true n e f q = omega (arith, eqb-true (low_bit b) 0 e, eqb-true (low_bit c) 0 f)
bit-told g h b c true false n e f q = absurd (n q)
bit-told g h b c false true n e f q = absurd (n (sym q))
bit-told g h b c false false n e f q = omega (arith, eqb-false (low_bit b) 0 e, eqb-false (low_bit c) 0 f)

-- and so is the number, with what is left of it
put_once : (f : Candidates) (b c : ℕ) → candidates_in f ≡ true → chosen f b ≡ chosen f c → left_by f b ≡ left_by f c → b ≡ c
put_once Absent b c i e r = r
put_once (One g) b c i e r = r
put_once (Two g h) b c i e r =
    let differ = eqb-false g h (not-true (eqb g h) (and_right (gpio_in g && gpio_in h) _ i)) in
    let s = bit-told g h b c (eqb (low_bit b) 0) (eqb (low_bit c) 0) differ refl refl e in
    omega arith

made-once : (ls : List Listed) → GpiosIn ls → (b c : ℕ) → b < 2 ^ twos ls → c < 2 ^ twos ls → Makes ls b (λ k. gpio_at ls c k) → b ≡ c
unfolding twos gpio_at rest_at
made-once [] i b c hb hc e = omega arith
made-once (l ∷ ls) i b c hb hc e =
    let left = left_fits l.gpios (twos ls) in
    put_once l.gpios b c (i 0) (e 0 (omega arith))
    (made-once ls (λ k. i (suc k)) _ _ (left b hb) (left c hc) (λ k h. sym (gpio_cons l ls b k) ∙ e (suc k) (omega arith) ∙ gpio_cons l ls c k))

bit_of_lem : (ls : List Listed) (c k g h : ℕ) → pin_at ls k ≡ Two g h → gpio_at ls c k ≡ cond (eqb (c / 2 ^ bit_of ls k % 2) 0) g h
unfolding gpio_at
bit_of_lem ls c k g h e = rw (e, rest_is ls c k)

pub numbers : (ls : List Listed) → first_fault ls ≡ None → GpiosIn ls → Numbers ls
numbers ls e i = record {
  makes_one = λ c k h. candidate-at ls c k (no_fault_at ls e k h);
  made = all_made ls;
  once = made-once ls i;
  bit = bit_of_lem ls;
}
