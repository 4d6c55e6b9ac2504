-- `read_roms` meets its contract. The loop's invariant: the words of the ROMs passed are read. Assumes nothing.
use mathlib.Core.Path.{◌≡◌, refl, ◌∙◌}
use native.Mathlib.Omega.{arith}
use borrow.Author.Tests.{eqb-true}
use Rattle.lists.proofs.Loops.{zero_one}
use Rattle.word_read.proofs.Words.{read-on, read-rest, read_none, all_read}
use Rattle.word_read.proofs.read_roms.Goals as goal

pub loop-k-init : goal.loop-k-init
loop-k-init c = (omega arith, refl, read_none _ _ _ _)

pub returns-then-not-read_rom : goal.returns-then-not-read_rom
returns-then-not-read_rom c = record { output_unchanged = c.read_rom.ensures.output_unchanged ∙ read-rest c.loop-k.invariant.2; all_read = λ z. absurd (zero_one cc) }

pub loop-k-preserved : goal.loop-k-preserved
loop-k-preserved c =
    let l = c.loop-k in
    let read = c.read_rom in
    (omega arith, read.auto.output ∙ l.invariant.1, read-on _ _ _ l.invariant.2 (read.ensures.words_read c.if-not-read_rom.false))

pub returns : goal.returns
returns c =
    let l = c.loop-k in
    let five : l.k ≡ 5 = omega (arith, l.invariant.0) in
    record { output_unchanged = read-rest l.invariant.2; all_read = λ z. all_read _ _ _ _ _ _ c.requires.reading (eqb-true _ _ z) (rw five at l.invariant.2) }
