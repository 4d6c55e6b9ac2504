-- Each byte of a chip comes from the last record that names it. Assumes nothing.
use mathlib.Core.Path.{◌≡◌, refl, ◌∙◌}
use mathlib.Core.Bool.{Bool, true, false, ◌&&◌, cond}
use mathlib.Core.List.{List, []}
use mathlib.Core.Logic.{◌⊎◌, inl, inr}
use Prim.Native.Nat.{ℕ, zero, suc, ◌+◌, ◌-◌, ◌≤◌, ◌<◌}
use native.Mathlib.Nat.{le_of_suc-le-suc, eq-or-lt_of_le}
use native.Mathlib.Omega.{arith}
use lib.Dec.{ltb, leb}
use lib.ListN.{length, get_or, drop, length-replicate, get_or-replicate, drop_of_length-le}
use lib.Seq.{drop-cons}
use borrow.Author.Tests.{ltb-true, ltb-false, leb-true, leb-false}
use Rattle.lists.proofs.Bools.{both}
use Rattle.lists.proofs.Tab.{tab-length, get_or-tab}
use Rattle.laid_bytes.specs.Laid.{laid}
use Rattle.laid_bytes.proofs.Laids.{laid_law}
use Rattle.hex_record.specs.Record.{count_of, data_byte, data_of, is_data, address_of}
use Rattle.hex_read.specs.Read.{stored, stored_by, blank}
use Rattle.hex_law.specs.Verdicts.{line_at, upper_at}
use Rattle.hex_law.specs.Bytes.{start_of, names, BytesLaw}

-- one record, and a byte that it names or leaves
module _ (upper : ℕ) (line chip : List ℕ) where
  abbrev start : ℕ
  start = address_of upper line

  abbrev laid_over : List ℕ
  laid_over = laid chip start (data_of line)

  record-length : length (stored_by upper line chip) ≡ length chip
  record-length = by (is_data line)
    where
      by : (t : Bool) → length (cond t laid_over chip) ≡ length chip
      by true = (laid_law chip start (data_of line)).long
      by false = refl

  module _ (a : ℕ) where
    abbrev within : Bool
    within = leb start a && ltb a (start + count_of line)

    record-byte : is_data line && within ≡ true → a < length chip → get_or (stored_by upper line chip) a 0 ≡ data_byte line (a - start)
    record-byte e h =
        let (kind, inside) = both (is_data line) within e in
        let (from, to) = both (leb start a) (ltb a (start + count_of line)) inside in
        let l : start ≤ a = leb-true start a from in
        let m : a < start + count_of line = ltb-true a (start + count_of line) to in
        let n : a - start < count_of line = omega arith in
        let p : start + (a - start) ≡ a = omega arith in
        let long : length (data_of line) ≡ count_of line = tab-length (data_byte line) (count_of line) in
        rw kind
        (rw p at ((laid_law chip start (data_of line)).inside (a - start) (omega arith) (omega arith)) ∙ get_or-tab (data_byte line) (count_of line) (a - start) 0 n)

    outside : within ≡ false → (a < start) ⊎ (start + length (data_of line) ≤ a)
    outside e = by (leb start a) refl e
      where
        by : (t : Bool) → leb start a ≡ t → t && ltb a (start + count_of line) ≡ false → (a < start) ⊎ (start + length (data_of line) ≤ a)
        by true f g = inr (omega (arith, ltb-false a (start + count_of line) g, tab-length (data_byte line) (count_of line)))
        by false f g = inl (leb-false start a f)

    record_leaves : is_data line && within ≡ false → get_or (stored_by upper line chip) a 0 ≡ get_or chip a 0
    record_leaves e = by (is_data line) e
      where
        by : (t : Bool) → t && within ≡ false → get_or (cond t laid_over chip) a 0 ≡ get_or chip a 0
        by true f = (laid_law chip start (data_of line)).outside a (outside f)
        by false f = refl

module _ (lines : List (List ℕ)) (size : ℕ) where
  -- the chip once the first k lines are stored
  unfoldable chip_at : ℕ → List ℕ
  chip_at zero = blank size
  chip_at (suc k) = stored_by (upper_at lines k) (line_at lines k) (chip_at k)

  stored_at : (k : ℕ) → k ≤ length lines → stored 0 lines (blank size) ≡ stored (upper_at lines k) (drop k lines) (chip_at k)
  unfolding upper_at chip_at stored
  stored_at zero h = refl
  stored_at (suc k) h = stored_at k (omega arith) ∙ rw (drop-cons lines k [] h)

  stored-all : stored 0 lines (blank size) ≡ chip_at (length lines)
  unfolding stored
  stored-all = stored_at (length lines) (omega arith) ∙ rw (drop_of_length-le lines {i = length lines} (omega arith))

  chip-length : (n : ℕ) → length (chip_at n) ≡ size
  unfolding chip_at
  chip-length zero = length-replicate size 255
  chip-length (suc n) = record-length (upper_at lines n) (line_at lines n) (chip_at n) ∙ chip-length n

  module _ (a : ℕ) (inside : a < size) where
    chip-blank : (n : ℕ) → ((j : ℕ) → j < n → names lines j a ≡ false) → get_or (chip_at n) a 0 ≡ 255
    unfolding chip_at
    chip-blank zero h = get_or-replicate size a 255 0 inside
    chip-blank (suc n) h =
        record_leaves (upper_at lines n) (line_at lines n) (chip_at n) a (h n (omega arith)) ∙ chip-blank n (λ j l. h j (omega arith))

    chip-latest : (n k : ℕ) → k < n → names lines k a ≡ true → ((j : ℕ) → k < j → j < n → names lines j a ≡ false)
        → get_or (chip_at n) a 0 ≡ data_byte (line_at lines k) (a - start_of lines k)
    unfolding chip_at
    chip-latest zero k l e h = absurd (omega arith)
    chip-latest (suc n) k l e h =
        elim (eq-or-lt_of_le (le_of_suc-le-suc l)) [
          | inl q ↦ rw q (record-byte (upper_at lines n) (line_at lines n) (chip_at n) a (rw q at e) (omega (arith, chip-length n)))
          | inr m ↦
              record_leaves (upper_at lines n) (line_at lines n) (chip_at n) a (h n m (omega arith))
              ∙ chip-latest n k m e (λ j b c. h j b (omega arith))
        ]

pub bytes_law : (lines : List (List ℕ)) (size : ℕ) → BytesLaw lines size
bytes_law lines size =
    let all = stored-all lines size in
    record {
      long = rw all (chip-length lines size (length lines));
      latest = λ a k inside l e h. rw all (chip-latest lines size a inside (length lines) k l e h);
      unnamed = λ a inside h. rw all (chip-blank lines size a inside (length lines) h);
    }
