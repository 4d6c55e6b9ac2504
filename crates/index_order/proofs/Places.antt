-- Lines one behind the other, and lines that are apart. Assumes nothing.
use mathlib.Core.Path.{◌≡◌, refl, sym, ◌∙◌, ap}
use mathlib.Core.Bool.{Bool, true, ◌&&◌}
use mathlib.Core.Logic.{inl, inr}
use Prim.Native.Nat.{ℕ, ◌+◌, ◌-◌, ◌*◌, ◌%◌, ◌^◌, ◌≤◌, ◌<◌}
use native.Mathlib.Nat.{one-mul, le_of_suc-le-suc, eq-or-lt_of_le}
use native.Mathlib.Numerals.{add-one}
use native.Mathlib.Omega.{arith}
use lib.Bits.{bit_and, bit_or}
use lib.Dec.{ltb, eqb}
use borrow.Author.Tests.{ltb-true, eqb-true}
use Rattle.lists.proofs.Bools.{both}
use Rattle.bits.specs.Bits.{bit}
use Rattle.bits.proofs.Or.{bit_or_lem}
use Rattle.bits.proofs.Bit.{bit_lt, bit_shifted}
use Rattle.byte_tables.proofs.Tables.{one_up}
use Rattle.entry_words.specs.declared.Map.{Map}
use Rattle.index_order.specs.Design.Order.{Pushed, Extends, Ordered, Apart, Fits, at, mask_of}

pub extends_none : (m : Map) → Extends m m
extends_none m = record { lines = omega arith; first = λ k l. refl }

pub extends_more : (a b c : Map) → Extends a b → Extends b c → Extends a c
extends_more a b c e f = record { lines = omega (arith, e.lines, f.lines); first = λ k l. f.first k (omega (arith, e.lines)) ∙ e.first k l }

pub ordered_more : (m picks a b : Map) → Ordered m picks a → Extends a b → Ordered m picks b
ordered_more m picks a b o e = record {
  lines = omega (arith, o.lines, e.lines);
  address = λ k l. e.first k (omega (arith, o.lines)) ∙ o.address k l;
  picked = λ k l. e.first (m.lines + k) (omega (arith, o.lines)) ∙ o.picked k l;
}

-- the lines that pick, pushed one by one
pub record Picking (m : Map) (picks : ℕ → ℕ) (out : Map) (k : ℕ) : Type 0 where
  pub lines : out.lines ≡ m.lines + k
  pub address : (j : ℕ) → j < m.lines → at out j ≡ at m j
  pub picked : (j : ℕ) → j < k → at out (m.lines + j) ≡ picks j

module _ (m : Map) (picks : ℕ → ℕ) where
  pub picking_none : Picking m picks m 0
  picking_none = record { lines = omega arith; address = λ j l. refl; picked = λ j l. absurd (omega arith) }

  pub picking_turn : (a b : Map) (k p : ℕ) → Picking m picks a k → p ≡ picks k → Pushed a p b → Picking m picks b (k + 1)
  picking_turn a b k p h e q = record {
    lines = omega (arith, h.lines, q.lines);
    address = λ j l. q.first j (omega (arith, h.lines)) ∙ h.address j l;
    picked = λ j l. elim (eq-or-lt_of_le (le_of_suc-le-suc (rw add-one at l))) [
      | inl s ↦ rw (s, ← h.lines, q.last) e
      | inr s ↦ q.first (m.lines + j) (omega (arith, h.lines)) ∙ h.picked j s
    ];
  }

pub picking_done : (m picks out : Map) (k : ℕ) → Picking m (at picks) out k → picks.lines ≤ k → k ≤ picks.lines → Ordered m picks out
picking_done m picks out k h l g =
    record { lines = omega (arith, h.lines); address = h.address; picked = λ j s. h.picked j (omega arith) }

-- what is tested of all positions
pub fits_told : (n : ℕ) (p : ℕ → ℕ) (forced high pins all ones : ℕ) (a : Bool) → (a ≡ true → Apart n p pins) → all ≡ mask_of n p pins → ones ≡ 2 ^ pins - 1
    → a && eqb (bit_and all forced) 0 && eqb (bit_or all forced) ones && eqb (bit_and high forced) high ≡ true → Fits n p forced high pins
fits_told n p forced high pins all ones a h e f t =
    let (t₁, last) = both (a && eqb (bit_and all forced) 0 && eqb (bit_or all forced) ones) (eqb (bit_and high forced) high) t in
    let (t₂, whole) = both (a && eqb (bit_and all forced) 0) (eqb (bit_or all forced) ones) t₁ in
    let (t₃, none) = both a (eqb (bit_and all forced) 0) t₂ in
    record {
      apart = h t₃;
      unforced = rw e at (eqb-true (bit_and all forced) 0 none);
      all = rw (e, f) at (eqb-true (bit_or all forced) ones whole);
      high_forced = eqb-true (bit_and high forced) high last;
    }

-- the positions passed are apart, and seen
pub record Seen (p : ℕ → ℕ) (pins seen k : ℕ) : Type 0 where
  pub below : (j : ℕ) → j < k → p j < pins
  pub own : (i j : ℕ) → i < k → j < k → p i ≡ p j → i ≡ j
  pub marked : (j : ℕ) → j < k → bit seen (p j) ≡ 1

module _ (p : ℕ → ℕ) (pins : ℕ) (few : pins ≤ 31) where
  pub seen_none : Seen p pins 0 0
  seen_none = record { below = λ j l. absurd (omega arith); own = λ i j l h. absurd (omega arith); marked = λ j l. absurd (omega arith) }

  seen_more : (seen k : ℕ) → Seen p pins seen k → p k < pins → bit seen (p k) ≡ 0 → Seen p pins (bit_or seen (1 * 2 ^ (p k % 32) % 2 ^ 32)) (k + 1)
  seen_more seen k s b z = record {
    below = λ j l. elim (eq-or-lt_of_le (le_of_suc-le-suc (rw add-one at l))) [ inl e ↦ rw e b | inr q ↦ s.below j q ];
    own = λ i j l h e. elim (eq-or-lt_of_le (le_of_suc-le-suc (rw add-one at l))) [
      | inl a ↦ elim (eq-or-lt_of_le (le_of_suc-le-suc (rw add-one at h))) [
        | inl c ↦ a ∙ sym c
        | inr c ↦ let once : p j ≡ p k = sym e ∙ ap p a in let twice : bit seen (p k) ≡ 1 = rw once at (s.marked j c) in absurd (omega arith)
      ]
      | inr a ↦ elim (eq-or-lt_of_le (le_of_suc-le-suc (rw add-one at h))) [
        | inl c ↦ let once : p i ≡ p k = e ∙ ap p c in let twice : bit seen (p k) ≡ 1 = rw once at (s.marked i a) in absurd (omega arith)
        | inr c ↦ s.own i j a c e
      ]
    ];
    marked = λ j l.
        let small : p k % 32 ≡ p k = omega arith in
        let one : 1 * 2 ^ (p k % 32) % 2 ^ 32 ≡ 1 * 2 ^ p k = rw (small, one_up (p k) 32 (omega arith), one-mul) in
        rw (one, bit_or_lem)
        (elim (eq-or-lt_of_le (le_of_suc-le-suc (rw add-one at l))) [
          | inl e ↦ rw (e, bit_shifted 1 (p k) (omega arith)) (omega (arith, bit_lt seen (p k)))
          | inr q ↦ rw (s.marked j q) (omega (arith, bit_lt (1 * 2 ^ p k) (p j)))
        ]);
  }

  pub seen-turn : (seen k at b : ℕ) (ok : Bool) → (ok ≡ true → Seen p pins seen k) → at ≡ p k → b ≡ bit seen at
      → ok && ltb at pins && eqb b 0 ≡ true → Seen p pins (bit_or seen (1 * 2 ^ (at % 32) % 2 ^ 32)) (k + 1)
  seen-turn seen k at b ok s e f t =
      let (t₁, none) = both (ok && ltb at pins) (eqb b 0) t in
      let (t₂, less) = both ok (ltb at pins) t₁ in
      let zero-there : bit seen (p k) ≡ 0 = rw (f, e) at (eqb-true b 0 none) in
      let within : p k < pins = rw e at (ltb-true at pins less) in
      rw e (seen_more seen k (s t₂) within zero-there)

  pub seen_done : (seen k n : ℕ) → k ≡ n → Seen p pins seen k → Apart n p pins
  seen_done seen k n e s = let here : Apart k p pins = record { below = s.below; own = s.own } in rw e at here
