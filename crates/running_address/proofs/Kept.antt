-- The address that is kept is the one rebuilt, and a line changes just where its bit of the index moves. Assumes nothing.
use mathlib.Core.Path.{◌≡◌, refl, sym, ◌∙◌, ap}
use Prim.Native.Nat.{ℕ, zero, suc, ◌+◌, ◌-◌, ◌^◌, ◌<◌}
use native.Mathlib.Numerals.{add-one}
use native.Mathlib.Decide.{ℕ_discrete}
use native.Mathlib.Omega.{arith}
use lib.Bits.{bit_xor, differ, xor_lt}
use Rattle.bits.specs.Bits.{bit, index_address}
use Rattle.bits.proofs.Bit.{bit_lt, bits-same}
use Rattle.bits.proofs.Gathered.{gather_lt}
use Rattle.bits.proofs.Back.{bit-gather}
use Rattle.bits.proofs.Xor.{bit_xor_lem}
use Rattle.running_address.specs.Kept.{highest_moved, moved_lines, kept_address}
use Rattle.running_address.specs.Law.{KeptLaw}
use Rattle.running_address.proofs.Index.{rise}
use Rattle.running_address.proofs.Address.{address_after}

-- a digit d is 1 where it changes another, and 0 where that stays
changes : (x d : ℕ) → x < 2 → d < 2 → (x ≡ differ x d → ⊥) → d ≡ 1
changes zero d h l n = omega arith
changes (suc x) zero h l n = absurd (n refl)
changes (suc x) (suc d) h l n = omega arith

same : (x d : ℕ) → x < 2 → d < 2 → x ≡ differ x d → d ≡ 0
same zero d h l e = sym e
same (suc x) zero h l e = refl
same (suc zero) (suc zero) h l e = absurd (omega arith)
same (suc zero) (suc (suc d)) h l e = absurd (omega arith)
same (suc (suc x)) (suc d) h l e = absurd (omega arith)

-- a digit that nothing changes, and one that is changed
unchanged : (x : ℕ) → differ x 0 ≡ x
unchanged zero = refl
unchanged (suc x) = refl

other : (x y : ℕ) → x < 2 → y < 2 → (x ≡ y → ⊥) → differ x 1 ≡ y
other zero y h l n = omega arith
other (suc zero) y h l n = omega arith
other (suc (suc x)) y h l n = absurd (omega arith)

-- the bits that move from an index to the next, as a number
abbrev moved : ℕ → ℕ
moved i = 2 ^ (highest_moved (i + 1) + 1) - 1

module _ (lines : ℕ) (position : ℕ → ℕ) where
  rebuilt : (i : ℕ) → i < 2 ^ 32 → kept_address lines position i ≡ index_address lines position i
  unfolding kept_address
  rebuilt zero h = refl
  rebuilt (suc i) h = rw (rebuilt i (omega arith)) (rw (add-one i) at (address_after lines position i (omega arith)))

  module _ (i k : ℕ) (h : i + 1 < 2 ^ 32) (l : k < lines) where
    -- whether a line moves is whether its position does, and that is how its bit of the next index differs
    line : bit (moved_lines lines position (highest_moved (i + 1))) k ≡ bit (moved i) (position k)
    line = bit-gather lines position (moved i) k l

    after : bit (i + 1) (position k) ≡ differ (bit i (position k)) (bit (moved i) (position k))
    after = ap (λ (x : ℕ). bit x (position k)) (sym (rise 32 i h)) ∙ bit_xor_lem i (moved i) (position k)

    moves : (bit i (position k) ≡ bit (i + 1) (position k) → ⊥) → bit (moved_lines lines position (highest_moved (i + 1))) k ≡ 1
    moves n = line ∙ changes (bit i (position k)) (bit (moved i) (position k)) (bit_lt i (position k)) (bit_lt (moved i) (position k)) (λ e. n (e ∙ sym after))

    stays : bit i (position k) ≡ bit (i + 1) (position k) → bit (moved_lines lines position (highest_moved (i + 1))) k ≡ 0
    stays e = line ∙ same (bit i (position k)) (bit (moved i) (position k)) (bit_lt i (position k)) (bit_lt (moved i) (position k)) (e ∙ after)

pub kept_law : (lines : ℕ) (position : ℕ → ℕ) → KeptLaw lines position
kept_law lines position = record {
  rebuilt = λ i h. rebuilt lines position i (omega arith);
  moves = λ i k h l. moves lines position i k (omega arith) (omega arith);
  stays = λ i k h l. stays lines position i k (omega arith) (omega arith);
}

-- The law leaves one address: what it says of each line makes up a step, and the addresses that it names are a step apart.
module _ (lines : ℕ) (position : ℕ → ℕ) (law : KeptLaw lines position) (i : ℕ) (h : i + 1 < 2 ^ 32) where
  abbrev changed : ℕ
  changed = moved_lines lines position (highest_moved (i + 1))

  one_line : (k : ℕ) → k < lines → differ (bit i (position k)) (bit changed k) ≡ bit (i + 1) (position k)
  one_line k l =
      elim (ℕ_discrete (bit i (position k)) (bit (i + 1) (position k))) [
        | yes e ↦ rw (law.stays i k h l e, unchanged) e
        | no n ↦ rw (law.moves i k h l n) (other (bit i (position k)) (bit (i + 1) (position k)) (bit_lt i (position k)) (bit_lt (i + 1) (position k)) n)
      ]

  one_step : bit_xor (index_address lines position i) changed ≡ index_address lines position (i + 1)
  one_step =
      bits-same lines (bit_xor (index_address lines position i) changed) (index_address lines position (i + 1))
      (xor_lt lines (index_address lines position i) changed (gather_lt lines position i) (gather_lt lines position (moved i)))
      (gather_lt lines position (i + 1))
      (λ k l. bit_xor_lem (index_address lines position i) changed k ∙ rw (bit-gather lines position i k l, bit-gather lines position (i + 1) k l) (one_line k l))

  pub one_address : bit_xor (kept_address lines position i) changed ≡ kept_address lines position (i + 1)
  one_address = ap (λ (a : ℕ). bit_xor a changed) (law.rebuilt i (omega arith)) ∙ one_step ∙ sym (law.rebuilt (i + 1) h)
