-- Digits, range by range, and a record's bytes. Assumes nothing.
use Rattle.std.proofs.Common.{◌≡◌, ℕ, ◌+◌, ◌-◌, ◌*◌, ◌/◌, ◌%◌, ◌<◌, ◌≤◌, Bool, true, false, cond, ◌||◌, ltb, leb, List, get_or, sym, refl, ◌∙◌, arith, lt-ltb, leb-true}
use Rattle.lists.specs.Each.{between}
use Rattle.lists.proofs.Bools.{and_left, and_right}
use Rattle.lists.proofs.First.{never_both}
use Rattle.hex_record.specs.Digits.{digit_of, is_digit}
use Rattle.hex_record.specs.Record.{record_byte}

pub at_least : (low high c : ℕ) → between low high c ≡ true → low ≤ c
at_least low high c e = leb-true low c (and_left (leb low c) (leb c high) e)

pub at_most : (low high c : ℕ) → between low high c ≡ true → c ≤ high
at_most low high c e = leb-true c high (and_right (leb low c) (leb c high) e)

-- a byte of two digits, each at most 16
pub byte_of : (line : List ℕ) (k high low : ℕ) → high ≡ digit_of (get_or line (2 * k + 1) 0) → low ≡ digit_of (get_or line (2 * k + 2) 0)
    → 16 * high + low ≡ record_byte line k
unfolding record_byte
byte_of line k high low e f = rw (e, f) refl

-- the three ranges are those of the digits
pub in_ranges : (c : ℕ) → between 48 57 c || between 65 70 c || between 97 102 c ≡ is_digit c
unfolding digit_of
in_ranges c = by (between 48 57 c) (between 65 70 c) (between 97 102 c) refl refl refl
  where
    by : (t u v : Bool) → between 48 57 c ≡ t → between 65 70 c ≡ u → between 97 102 c ≡ v
        → t || u || v ≡ ltb (cond t (c - 48) (cond u (c - 55) (cond v (c - 87) 16))) 16
    by true u v e f g = sym (lt-ltb (c - 48) 16 (omega (arith, at_most 48 57 c e)))
    by false true v e f g = sym (lt-ltb (c - 55) 16 (omega (arith, at_most 65 70 c f)))
    by false false true e f g = sym (lt-ltb (c - 87) 16 (omega (arith, at_most 97 102 c g)))
    by false false false e f g = refl

pub value_of : (c : ℕ) → is_digit c ≡ true → (c % 16 + 9 * (c / 64) ≡ digit_of c) × (c % 16 + 9 * (c / 64) < 16)
unfolding digit_of
value_of c d = by (between 48 57 c) (between 65 70 c) (between 97 102 c) refl refl refl d
  where
    by : (t u v : Bool) → between 48 57 c ≡ t → between 65 70 c ≡ u → between 97 102 c ≡ v → ltb (cond t (c - 48) (cond u (c - 55) (cond v (c - 87) 16))) 16 ≡ true
        → (c % 16 + 9 * (c / 64) ≡ cond t (c - 48) (cond u (c - 55) (cond v (c - 87) 16))) × (c % 16 + 9 * (c / 64) < 16)
    by true u v e f g d = (omega (arith, at_least 48 57 c e, at_most 48 57 c e), omega (arith, at_least 48 57 c e, at_most 48 57 c e))
    by false true v e f g d = (omega (arith, at_least 65 70 c f, at_most 65 70 c f), omega (arith, at_least 65 70 c f, at_most 65 70 c f))
    by false false true e f g d = (omega (arith, at_least 97 102 c g, at_most 97 102 c g), omega (arith, at_least 97 102 c g, at_most 97 102 c g))
    by false false false e f g d = absurd (never_both (ltb 16 16) d refl)

pub no_digit : (c : ℕ) → is_digit c ≡ false → ◌≡◌ {A = ℕ} 16 (digit_of c)
unfolding digit_of
no_digit c d = by (between 48 57 c) (between 65 70 c) (between 97 102 c) (in_ranges c ∙ d) refl refl refl
  where
    by : (t u v : Bool) → between 48 57 c || between 65 70 c || between 97 102 c ≡ false → between 48 57 c ≡ t → between 65 70 c ≡ u → between 97 102 c ≡ v
        → ◌≡◌ {A = ℕ} 16 (cond t (c - 48) (cond u (c - 55) (cond v (c - 87) 16)))
    by true u v d e f g = absurd (never_both true refl (rw e at d))
    by false true v d e f g = absurd (never_both true refl (rw (e, f) at d))
    by false false true d e f g = absurd (never_both true refl (rw (e, f, g) at d))
    by false false false d e f g = refl
