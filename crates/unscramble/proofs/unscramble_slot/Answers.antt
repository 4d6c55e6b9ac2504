-- `unscramble_slot` meets its contract. Assumes nothing.
use mathlib.Core.Path.{◌≡◌, sym, ◌∙◌, ap}
use mathlib.Core.Bool.{Bool, true, false, cond}
use mathlib.Core.List.{List}
use Prim.Native.Nat.{ℕ}
use lib.ListN.{length}
use borrow.Author.Tests.{eq-eqb, ne_eqb}
use Rattle.refusal.specs.declared.Refusal.TheVariants.{OutOfDomain, WrongSize}
use Rattle.words.specs.declared.ByteOrder.{ByteOrder}
use Rattle.stored_slot.specs.Stored.{stored_in}
use Rattle.stored_slot.specs.Faults.{wrong_size}
use Rattle.unscramble.specs.Recovered.{ReadBack, read_refused, of_type, unscrambled}
use Rattle.stored_slot.specs.declared.stored.SlotType.{SlotType}
use Rattle.stored_slot.specs.declared.stored.StoredSlot.{StoredSlot}
use Rattle.unscramble.proofs.unscramble_slot.Goals as goal

module _ (order : ByteOrder) (s : StoredSlot) (stored output marks : List ℕ) (ok : Bool) (e : ok ≡ stored_in s) where
  abbrev sized : Bool → ReadBack
  sized wrong = cond wrong (read_refused WrongSize output marks) (of_type order s stored output marks s.slot_type)

  abbrev tested : Bool → ReadBack
  tested b = cond b (sized (wrong_size s stored)) (read_refused OutOfDomain output marks)

  whole : tested ok ≡ unscrambled order s stored output marks
  unfolding unscrambled
  whole = ap tested e

  outside : ok ≡ false → read_refused OutOfDomain output marks ≡ unscrambled order s stored output marks
  outside n = ap tested (sym n) ∙ whole

  module _ (n : ok ≡ true) where
    past : sized (wrong_size s stored) ≡ unscrambled order s stored output marks
    past = ap tested (sym n) ∙ whole

    wrong : (length stored ≡ s.size → ⊥) → read_refused WrongSize output marks ≡ unscrambled order s stored output marks
    wrong h = let t : wrong_size s stored ≡ true = rw (ne_eqb (length stored) s.size h) in ap sized (sym t) ∙ past

    of_type_lem : length stored ≡ s.size → (t : SlotType) → s.slot_type ≡ t → of_type order s stored output marks t ≡ unscrambled order s stored output marks
    of_type_lem h t q =
        let f : wrong_size s stored ≡ false = rw (eq-eqb (length stored) s.size h) in
        ap (of_type order s stored output marks) (sym q) ∙ ap sized (sym f) ∙ past

pub returns-then-not-stored_in : goal.returns-then-not-stored_in
returns-then-not-stored_in c =
    let a = c.args in
    outside a.order a.s a.stored.now a.output.now a.marks.now _ c.stored_in.ensures c.if-not-stored_in.true

pub returns-then-stored-s : goal.returns-then-stored-s
returns-then-stored-s c =
    let a = c.args in
    wrong a.order a.s a.stored.now a.output.now a.marks.now _ c.stored_in.ensures c.if-not-stored_in.false c.if-stored-s.true

pub returns-in-Unknown : goal.returns-in-Unknown
returns-in-Unknown c =
    let a = c.args in
    of_type_lem a.order a.s a.stored.now a.output.now a.marks.now _ c.stored_in.ensures c.if-not-stored_in.false c.if-stored-s.false _ c.in-Unknown.is

pub returns-in-Plugin : goal.returns-in-Plugin
returns-in-Plugin c =
    let a = c.args in
    c.plugin.ensures a.marks.now
    ∙ of_type_lem a.order a.s a.stored.now a.output.now a.marks.now _ c.stored_in.ensures c.if-not-stored_in.false c.if-stored-s.false _ c.in-Plugin.is

pub returns-in-Roms : goal.returns-in-Roms
returns-in-Roms c =
    let a = c.args in
    c.roms_read.ensures
    ∙ of_type_lem a.order a.s a.stored.now a.output.now a.marks.now _ c.stored_in.ensures c.if-not-stored_in.false c.if-stored-s.false _ c.in-Roms.is
