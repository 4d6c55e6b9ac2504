-- `known_offset` meets its contract. The loop's invariant: the rows from k on give the whole table's answer. Assumes nothing.
use Rattle.std.specs.Prelude.{Result, Ok, ℤ}
use Rattle.refusal.specs.declared.Refusal.{Refusal}
use mathlib.Core.Path.{◌≡◌, sym, ◌∙◌, ap}
use mathlib.Core.Bool.{Bool, true, false, cond}
use mathlib.Core.List.{List}
use Prim.Native.Nat.{ℕ, ◌+◌, ◌<◌}
use native.Mathlib.Numerals.{add-one}
use native.Mathlib.Omega.{arith}
use lib.ListN.{length, drop, get_or}
use lib.Seq.{drop-cons}
use borrow.Author.Rules.{rules}
use Rattle.slot.specs.declared.slot_context.KnownPair.{KnownPair}
use Rattle.slot.specs.SlotContext.{is_for, offset_from, known_pairs}
use Rattle.slot.proofs.slot_context.known_offset.Goals as goal

turn : (ps : List KnownPair) (k chip board : ℕ) (d : KnownPair) (t : Bool) (whole : Result ℤ Refusal) → k < length ps
    → t ≡ is_for (get_or ps k d) chip board → offset_from (drop k ps) chip board ≡ whole
    → cond t (Ok (get_or ps k d).offset) (offset_from (drop (k + 1) ps) chip board) ≡ whole
unfolding offset_from
turn ps k chip board d t whole h e w = rw (e, add-one) (rw (drop-cons ps k d) at w)

pub returns-then-is_for : goal.returns-then-is_for
unfolding known_pairs
returns-then-is_for c =
    let v = c.loop-k in
    let a = c.args in
    ap Ok (search rules) ∙ turn known_pairs v.k a.chip_pins a.board_pins _ true _ (omega arith) (sym c.if-is_for.true ∙ c.is_for.ensures) v.invariant.1

pub loop-k-preserved : goal.loop-k-preserved
unfolding known_pairs
loop-k-preserved c =
    let v = c.loop-k in
    let a = c.args in
    (omega arith, turn known_pairs v.k a.chip_pins a.board_pins _ false _ (omega arith) (sym c.if-is_for.false ∙ c.is_for.ensures) v.invariant.1)

pub returns : goal.returns
unfolding known_pairs offset_from
returns c =
    let e : c.loop-k.k ≡ 10 = omega arith in
    rw e at c.loop-k.invariant.1
