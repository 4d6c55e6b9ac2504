-- The laws of the byte order, and that they leave nothing open. Assumes nothing.
use Rattle.std.specs.Prelude.{Result}
use Rattle.refusal.specs.declared.Refusal.{Refusal}
use mathlib.Core.Path.{◌≡◌, sym, ◌∙◌, ap}
use mathlib.Core.List.{List}
use Prim.Native.Nat.{ℕ}
use Rattle.words.specs.declared.ByteOrder.{ByteOrder}
use Rattle.words.specs.declared.ByteOrder.TheVariants.{LowFirst}
use Rattle.stored_slot.specs.Words.{all_words}
use Rattle.stored_slot.specs.declared.stored.StoredSlot.{StoredSlot}
use Rattle.unscramble.specs.Recovered.{ReadBack}
use Rattle.order_law.specs.Law.{words_swapped, ReadLaw, ReadsAgree, OrderLaws, OneBuild, OneRead}
use Rattle.order_law.proofs.Build.{build_law, entries_law}
use Rattle.order_law.proofs.Read.{read_law}

pub order_laws : OrderLaws
order_laws = record { build = build_law; entries = entries_law; read_back_law = read_law }

-- what is built high byte first is told by what is built low byte first
pub one-build : OneBuild
one-build b one other law also low = record {
  eight = λ e images lent. law.eight e images lent ∙ low images lent ∙ sym (also.eight e images lent);
  sixteen = λ e images pairs lent s. law.swap e images pairs lent s ∙ low pairs lent ∙ sym (also.swap e images pairs lent s);
}

-- what is read back high byte first is told by what is read back low byte first
module _ (s : StoredSlot) (one other : ByteOrder → List ℕ → List ℕ → List ℕ → ReadBack) (law : ReadLaw s one) (also : ReadLaw s other)
    (low : (stored output marks : List ℕ) → one LowFirst stored output marks ≡ other LowFirst stored output marks) where
  -- the other answers low byte first as the one does
  as_one : (stored output marks : List ℕ) (x : Result (Unit {0}) Refusal) → (one LowFirst stored output marks).answer ≡ x
      → (other LowFirst stored output marks).answer ≡ x
  as_one stored output marks x a = ap (λ (r : ReadBack). r.answer) (sym (low stored output marks)) ∙ a

  reads_agree : ReadsAgree s one other
  reads_agree = record {
    eight = λ e stored output marks. law.eight e stored output marks ∙ low stored output marks ∙ sym (also.eight e stored output marks);
    plugin = λ p stored output marks. law.plugin p stored output marks ∙ low stored output marks ∙ sym (also.plugin p stored output marks);
    refused = λ why stored output marks a.
        law.refused why stored output marks a ∙ low stored output marks
        ∙ sym (also.refused why stored output marks (as_one stored output marks _ a));
    sixteen = λ set stored output marks t e a.
        law.swap set stored output marks t e a ∙ ap (words_swapped (all_words s)) (low stored output marks)
        ∙ sym (also.swap set stored output marks t e (as_one stored output marks _ a));
  }

pub one-read : OneRead
one-read s one other law also low = reads_agree s one other law also low
