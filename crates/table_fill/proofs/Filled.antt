-- A table that is filled row by row. Assumes nothing.
use mathlib.Core.Path.{◌≡◌, refl}
use mathlib.Core.List.{List}
use Prim.Native.Nat.{ℕ, ◌+◌, ◌-◌, ◌*◌, ◌≤◌, ◌<◌, min}
use native.Mathlib.Nat.{le_trans, mul-le-mul_right}
use native.Mathlib.Omega.{arith}
use Rattle.words.specs.declared.ByteOrder.{ByteOrder}
use Rattle.words.proofs.Words.{words-none}
use Rattle.word_rows.specs.Design.Wrote.{Wrote}
use Rattle.table_fill.specs.Design.Entries.{entry_by, table_by, part_of}
use Rattle.table_fill.specs.declared.wiring.Wiring.{Wiring}
use Rattle.table_fill.specs.declared.wiring.Part.{Part}
use Rattle.table_fill.specs.declared.sources.Source.{Source}

-- what an index says, by its two numbers
pub part_is : (w : Wiring) (i address picks : ℕ) → address ≡ (part_of w i).address → picks ≡ (part_of w i).picks
    → ◌≡◌ {A = Part} record { address = address; picks = picks } (part_of w i)
part_is w i address picks e f = rw (e, f)

-- the entries of a row have room
pub rows_room : (w i count entries long : ℕ) → i < entries → count ≡ min 256 (entries - i) → entries * w ≤ long → (i + count) * w ≤ long
rows_room w i count entries long l e h = le_trans (mul-le-mul_right w (omega arith)) h

module _ (order : ByteOrder) (w : Wiring) (sources : List Source) (pad : ℕ) (images old : List ℕ) (entries : ℕ) where
  -- before the first row, one row, and the end
  pub rows_none : old ≡ table_by order w sources pad images (min 0 entries) old
  rows_none = let none : min 0 entries ≡ 0 = omega arith in rw none (words-none w.word_bytes (entry_by order w sources pad images) old)

  pub rows_turn : (i count : ℕ) (now new : List ℕ) → i < entries → count ≡ min 256 (entries - i) → now ≡ table_by order w sources pad images (min i entries) old
      → Wrote w.word_bytes (λ q. entry_by order w sources pad images (i + q)) i count now new → new ≡ table_by order w sources pad images (min (i + 256) entries) old
  rows_turn i count now new l e h wrote =
      let here : min i entries ≡ i = omega arith in
      let there : min (i + 256) entries ≡ i + count = omega arith in
      rw there (wrote (entry_by order w sources pad images) old (rw here at h) (λ q s. refl))

  pub rows_done : (i : ℕ) (now : List ℕ) → entries ≤ i → now ≡ table_by order w sources pad images (min i entries) old → now ≡ table_by order w sources pad images entries old
  rows_done i now l h = let all : min i entries ≡ entries = omega arith in rw all at h
