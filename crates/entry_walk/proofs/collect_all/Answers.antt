-- `collect_all` meets its contract: the walk's answer, or what the marks then say, is the outcome of all entries. Assumes nothing.
use mathlib.Core.Path.{◌≡◌}
use mathlib.Core.List.{List, ◌++◌}
use Prim.Native.Nat.{ℕ, ◌*◌}
use lib.ListN.{length, drop, replicate}
use Rattle.entry_words.specs.Design.Reading.{word_by, value_by}
use Rattle.entry_words.specs.declared.Reading.{Reading}
use Rattle.entry_rows.specs.Design.Held.{Held}
use Rattle.entry_rows.proofs.Held.{held-own, same-room}
use Rattle.entry_walk.proofs.Cleared.{held_none}
use Rattle.entry_walk.proofs.Collected.{collected_bad, collected_served}
use Rattle.entry_walk.proofs.collect_all.Goals as goal

-- the cleared buffers hold what no entry tells
none : (r : Reading) (stored : List ℕ) {output marks o k : List ℕ} → length o ≡ length output → length k ≡ length marks
    → o ≡ replicate (r.words * r.word_bytes) 0 ++ drop (r.words * r.word_bytes) output → k ≡ replicate r.words 0 ++ drop r.words marks
    → Held r.word_bytes r.words (word_by r) (value_by r stored) output marks 0 o k
none r stored l m e f = held_none _ _ _ _ _ _ _ _ l m e f

pub walk-requires : goal.walk-requires
walk-requires c =
    let e = c.clear_both in
    let h = none c.args.r c.args.stored.now e.auto.output e.auto.marks e.ensures.output_after e.ensures.marks_after in
    let p = c.requires in
    record { lent = record { reading = p.reading; few = p.few; entries = p.entries; room = same-room h p.room }; held = held-own h }

pub returns-in-Err : goal.returns-in-Err
returns-in-Err c =
    let e = c.clear_both in
    let h = none c.args.r c.args.stored.now e.auto.output e.auto.marks e.ensures.output_after e.ensures.marks_after in
    let again = c.clear_both-in-Err.ensures in
    collected_bad _ _ _ _ _ _ _ h c.walk.ensures _ _ _ c.in-Err.is again.output_after again.marks_after

pub returns-in-Ok : goal.returns-in-Ok
returns-in-Ok c =
    let e = c.clear_both in
    let h = none c.args.r c.args.stored.now e.auto.output e.auto.marks e.ensures.output_after e.ensures.marks_after in
    collected_served _ _ _ _ _ _ _ h c.walk.ensures _ _ _ c.in-Ok.is c.walk.auto.output c.walk.auto.marks c.served.ensures
