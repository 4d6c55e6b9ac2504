-- What the byte order changes of a read-back: the bytes of words, and nothing else. Assumes nothing.
use Rattle.std.specs.Prelude.{Option, Some, Ok, Err, None, Result}
use mathlib.Core.Path.{◌≡◌, refl, sym, ◌∙◌, ap}
use mathlib.Core.Bool.{Bool, true, false, cond}
use mathlib.Core.List.{List, ◌++◌}
use Prim.Native.Nat.{ℕ, ◌*◌}
use lib.ListN.{length, take, drop, replicate}
use lib.Seq.{take_at, drop_at}
use Rattle.lists.proofs.Loops.{zero_one}
use Rattle.words.specs.declared.ByteOrder.{ByteOrder}
use Rattle.words.specs.declared.ByteOrder.TheVariants.{LowFirst, HighFirst}
use Rattle.slot.specs.declared.description.ChipSetType.{ChipSetType}
use Rattle.refusal.specs.First.{or_else}
use Rattle.refusal.specs.declared.Refusal.{Refusal}
use Rattle.refusal.specs.declared.Refusal.TheVariants.{OutOfDomain, WrongSize, UnknownSlotType}
use Rattle.stored_slot.specs.Stored.{stored_in, word_bytes}
use Rattle.stored_slot.specs.Faults.{wrong_size, roms_fault}
use Rattle.stored_slot.specs.Words.{all_words}
use Rattle.stored_slot.specs.declared.stored.SlotType.{SlotType}
use Rattle.stored_slot.specs.declared.stored.SlotType.TheVariants.{Unknown, Plugin, Roms}
use Rattle.stored_slot.specs.declared.stored.StoredSlot.{StoredSlot}
use Rattle.unscramble.specs.Recovered.{ReadBack, read_back, read_refused, front, inconsistent, unserved, recovered}
use Rattle.unscramble.specs.Recovered.{after_entries, read_after, plugin_read, of_type, unscrambled}
use Rattle.order_law.specs.Law.{swapped, words_swapped, ReadLaw}
use Rattle.order_law.proofs.Swapped.{swapped-length}
use Rattle.order_law.proofs.Joined.{recovered-long, recovered_alike, recovered-swapped}

module _ (s : StoredSlot) (stored output marks : List ℕ) where
  abbrev read : ByteOrder → ReadBack
  read order = unscrambled order s stored output marks

  -- what is read back of ROMs where nothing is refused
  abbrev whole_read : List ℕ → ReadBack
  whole_read bytes = read_back (Ok tt) (front bytes output) (front (replicate (all_words s) 1) marks)

  -- how a read-back ends: refused, with the bytes of a plugin, or with those of words. The order counts for the last alone
  data End : Type 0 where
    stopped : (why : Refusal) (o m : List ℕ) → ((order : ByteOrder) → read order ≡ read_back (Err why) o m) → End
    of_plugin : s.slot_type ≡ Plugin → (r : ReadBack) → ((order : ByteOrder) → read order ≡ r) → End
    of_words : (set : ChipSetType) → s.slot_type ≡ Roms set → ((order : ByteOrder) → read order ≡ whole_read (recovered order s set stored)) → End

  entries-end : (set : ChipSetType) → s.slot_type ≡ Roms set → (f : Option Refusal)
      → ((order : ByteOrder) → read order ≡ after_entries order s set stored output marks f) → End
  entries-end set k None e = of_words set k e
  entries-end set k (Some why) e = stopped why _ _ e

  roms-end : (set : ChipSetType) → s.slot_type ≡ Roms set → (f : Option Refusal)
      → ((order : ByteOrder) → read order ≡ read_after order s set stored output marks f) → End
  roms-end set k (Some why) e = stopped why _ _ e
  roms-end set k None e = entries-end set k (or_else (inconsistent s set stored) (unserved s set)) e

  type_end : (t : SlotType) → s.slot_type ≡ t → ((order : ByteOrder) → read order ≡ of_type order s stored output marks t) → End
  type_end Unknown k e = stopped UnknownSlotType _ _ e
  type_end Plugin k e = of_plugin k (plugin_read stored output marks) e
  type_end (Roms set) k e = roms-end set k (roms_fault s set stored (length output) (length marks)) e

  size-end : (t : Bool)
      → ((order : ByteOrder) → read order ≡ cond t (read_refused WrongSize output marks) (of_type order s stored output marks s.slot_type)) → End
  size-end true e = stopped WrongSize _ _ e
  size-end false e = type_end s.slot_type refl e

  domain-end : (t : Bool)
      → ((order : ByteOrder) → read order
      ≡ cond t (cond (wrong_size s stored) (read_refused WrongSize output marks) (of_type order s stored output marks s.slot_type))
      (read_refused OutOfDomain output marks)) → End
  domain-end false e = stopped OutOfDomain _ _ e
  domain-end true e = size-end (wrong_size s stored) e

  end : End
  unfolding unscrambled
  end = domain-end (stored_in s) (λ order. refl)

  -- what cannot be

  not-plugin : (set : ChipSetType) → s.slot_type ≡ Plugin → s.slot_type ≡ Roms set → ⊥
  not-plugin set p r = zero_one cc

  not_done : (why : Refusal) → ◌≡◌ {A = Result (Unit {0}) Refusal} (Err why) (Ok tt) → ⊥
  not_done why e = zero_one cc

  -- the first bytes of the output are the words, and those behind them stay
  turned : word_bytes s ≡ 2 → (set : ChipSetType)
      → whole_read (recovered HighFirst s set stored) ≡ words_swapped (all_words s) (whole_read (recovered LowFirst s set stored))
  turned e set =
      let low = recovered LowFirst s set stored in
      let long = recovered-long s set stored e in
      let behind = drop (length low) output in
      let first : take (2 * all_words s) (front low output) ≡ low = take_at low behind (2 * all_words s) long in
      let rest : drop (2 * all_words s) (front low output) ≡ behind = drop_at low behind (2 * all_words s) long in
      ap whole_read (recovered-swapped s set stored e)
      ∙ ap (λ (n : ℕ). read_back (Ok tt) (swapped low ++ drop n output) (front (replicate (all_words s) 1) marks)) (swapped-length low)
      ∙ (λ i. read_back (Ok tt) (swapped (sym first i) ++ sym rest i) (front (replicate (all_words s) 1) marks))

  -- the laws, by how it ends

  eight_by : word_bytes s ≡ 1 → End → read HighFirst ≡ read LowFirst
  eight_by e (stopped why o m u) = u HighFirst ∙ sym (u LowFirst)
  eight_by e (of_plugin k r u) = u HighFirst ∙ sym (u LowFirst)
  eight_by e (of_words set k u) = u HighFirst ∙ ap whole_read (recovered_alike s set stored e) ∙ sym (u LowFirst)

  plugin_by : s.slot_type ≡ Plugin → End → read HighFirst ≡ read LowFirst
  plugin_by p (stopped why o m u) = u HighFirst ∙ sym (u LowFirst)
  plugin_by p (of_plugin k r u) = u HighFirst ∙ sym (u LowFirst)
  plugin_by p (of_words set k u) = absurd (not-plugin set p k)

  refused_by : (why : Refusal) → (read LowFirst).answer ≡ Err why → End → read HighFirst ≡ read LowFirst
  refused_by why a (stopped other o m u) = u HighFirst ∙ sym (u LowFirst)
  refused_by why a (of_plugin k r u) = u HighFirst ∙ sym (u LowFirst)
  refused_by why a (of_words set k u) = absurd (not_done why (sym a ∙ ap (λ (r : ReadBack). r.answer) (u LowFirst)))

  swap_by : (set : ChipSetType) → s.slot_type ≡ Roms set → word_bytes s ≡ 2 → (read LowFirst).answer ≡ Ok tt → End
      → read HighFirst ≡ words_swapped (all_words s) (read LowFirst)
  swap_by set t e a (stopped why o m u) = absurd (not_done why (sym (ap (λ (r : ReadBack). r.answer) (u LowFirst)) ∙ a))
  swap_by set t e a (of_plugin k r u) = absurd (not-plugin set k t)
  swap_by set t e a (of_words other k u) = u HighFirst ∙ turned e other ∙ ap (words_swapped (all_words s)) (sym (u LowFirst))

pub read_law : (s : StoredSlot) → ReadLaw s (λ order stored output marks. unscrambled order s stored output marks)
read_law s = record {
  eight = λ e stored output marks. eight_by s stored output marks e (end s stored output marks);
  plugin = λ p stored output marks. plugin_by s stored output marks p (end s stored output marks);
  refused = λ why stored output marks a. refused_by s stored output marks why a (end s stored output marks);
  swap = λ set stored output marks t e a. swap_by s stored output marks set t e a (end s stored output marks);
}
