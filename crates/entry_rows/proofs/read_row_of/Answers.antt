-- `read_row_of` meets its contract. The loop's invariant: the entries passed are read, and none of them disagrees. Assumes nothing.
use mathlib.Core.Path.{◌≡◌, refl, ◌∙◌}
use mathlib.Core.List.{List}
use Prim.Native.Nat.{ℕ, ◌+◌, ◌^◌, ◌<◌}
use native.Mathlib.Omega.{arith}
use Rattle.words.specs.Words.{word}
use Rattle.words.proofs.Words.{word-short}
use Rattle.entry_words.specs.Design.Reading.{word_by, value_by}
use Rattle.entry_words.specs.declared.Reading.{Reading}
use Rattle.entry_words.proofs.Bounds.{value_few}
use Rattle.entry_rows.specs.Design.Held.{Held, OnwardRow}
use Rattle.entry_rows.specs.declared.Row.{Row}
use Rattle.entry_rows.proofs.Lookups.{Looked, rom_found, value_found, low-few, lows_long, low_bytes_long, high_bytes_long, bits_in, rom_in, address_in, word_looked, value_looked, value_in}
use Rattle.entry_rows.proofs.Held.{Entry, held_skip, held_keep, held_bad, held_same}
use Rattle.entry_rows.proofs.read_row_of.Goals.{then-f-r+else-not-keep, else-f-r}
use Rattle.entry_rows.proofs.read_row_of.Goals as goal

module _ {r : Reading} {row : Row} {lows low-bytes high-bytes stored output marks : List ℕ} {low : ℕ} (p : OnwardRow r row lows low-bytes high-bytes stored output marks) (l : low < row.count) where
  -- what is looked up of the index
  looked : Looked r row lows low-bytes high-bytes low
  looked = record { reading = p.onward.lent.reading; few = p.onward.lent.few; in_row = p.in_row; tables = p.tables; within = l }

  -- the entry, with the word that it is for and what it says
  entry : {o k : List ℕ} {f x e : ℕ} → Held r.word_bytes r.words (word_by r) (value_by r stored) output marks (row.start + low) o k
      → f ≡ word_by r (row.start + low) → e ≡ word r.word_bytes stored (row.start + low) → e < 2 ^ 16
      → x ≡ value_found low-bytes high-bytes (rom_found r row lows low) e → f < r.words
      → Entry r.word_bytes r.words (word_by r) (value_by r stored) output marks (row.start + low) o k f x
  entry h for there short says below = record {
    held = h;
    room = p.onward.lent.room.output-room;
    marks-room = p.onward.lent.room.marks-room;
    few = value_few p.onward.lent.reading stored;
    for = for;
    says = says ∙ value_looked looked _ _ there short;
    below = below;
  }

pub bounds-lows-low : goal.bounds-lows-low
bounds-lows-low g c = let l = looked c.requires.onward c.loop-low-test.true in omega (arith, low-few l, lows_long l)

pub overflow_add-rom-in-loop-low : goal.overflow_add-rom-in-loop-low
overflow_add-rom-in-loop-low g c = record { fits = omega (arith, bits_in (looked c.requires.onward c.loop-low-test.true)) }

pub bounds-roms-lows : goal.bounds-roms-lows
bounds-roms-lows g c = bits_in (looked c.requires.onward c.loop-low-test.true)

pub bounds-lows-rom : goal.bounds-lows-rom
bounds-lows-rom g c = let l = looked c.requires.onward c.loop-low-test.true in omega (arith, rom_in l, low-few l, lows_long l)

pub overflow_add-address-in-loop-low : goal.overflow_add-address-in-loop-low
overflow_add-address-in-loop-low g c = record { fits = omega (arith, address_in (looked c.requires.onward c.loop-low-test.true)) }

pub said-requires : goal.said-requires
said-requires g c =
    let l = looked c.requires.onward c.loop-low-test.true in
    let short = word-short _ _ l.reading.bytes (rw c.requires.width at c.word_at-entry.ensures.upper_bound) in
    record { rom_bound = (rom_in l, short, low_bytes_long l, high_bytes_long l); bound = value_in l _ _ (rw c.requires.width at c.word_at-entry.ensures.value) short }

pub returns-then-not-keep : goal.returns-then-not-keep
returns-then-not-keep g c =
    let l = looked c.requires.onward c.loop-low-test.true in
    let short = word-short _ _ l.reading.bytes (rw c.requires.width at c.word_at-entry.ensures.upper_bound) in
    let for = rw c.unforced-counts.ensures at c.word_for-f.ensures ∙ word_looked l _ _ refl refl in
    let e = entry c.requires.onward c.loop-low-test.true c.loop-low.invariant.1 for (rw c.requires.width at c.word_at-entry.ensures.value) short c.said.ensures c.if-f-r.true in
    held_bad e _ _ (c.args.row.start + c.args.row.count) (omega arith) (rw (c.if-not-keep.true, c.requires.width) at c.keep.ensures)

-- an entry that is for a word and agrees, and one that is for none
pub loop-low-preserved : goal.loop-low-preserved
loop-low-preserved g c =
    let l = looked c.requires.onward c.loop-low-test.true in
    let n = c.args.row.start + (c.loop-low.low + 1) in
    let for = rw c.unforced-counts.ensures at c.word_for-f.ensures ∙ word_looked l _ _ refl refl in (
      omega arith,
      elim c.if-f-r.branch [
        | then-f-r+else-not-keep w ↦
            let short = word-short _ _ l.reading.bytes (rw c.requires.width at w.word_at-entry.ensures.upper_bound) in
            let e = entry c.requires.onward c.loop-low-test.true c.loop-low.invariant.1 for (rw c.requires.width at w.word_at-entry.ensures.value) short w.said.ensures w.if-f-r.true in
            held_same (held_keep e _ _ n (omega arith) w.keep.auto.output w.keep.auto.marks (rw (w.if-not-keep.false, c.requires.width) at w.keep.ensures)) _ _ w.output-is w.marks-is
        | else-f-r w ↦ held_same (held_skip c.loop-low.invariant.1 n _ (omega arith) for w.if-f-r.false) _ _ w.output-is w.marks-is
      ],
    )
