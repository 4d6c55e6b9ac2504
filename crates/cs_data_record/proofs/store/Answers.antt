-- `store` meets its contract: the four parts of the record stand one behind the other. Assumes nothing.
use mathlib.Core.Path.{◌≡◌, refl, ap, ◌∙◌}
use mathlib.Core.List.{List, append_assoc, ◌++◌}
use Prim.Native.Nat.{ℕ}
use native.Mathlib.Omega.{arith}
use lib.ListN.{length, drop, length-append}
use borrow.Author.Rules.{rules}
use Rattle.lists.proofs.Tab.{tab-length}
use Rattle.cs_data_layout.specs.declared.layout.CsDataLayout.{CsDataLayout}
use Rattle.cs_data_record.specs.CsDataRecord.{cs_data_size, cs_data_head, cs_data_bytes}
use Rattle.cs_data_record.specs.Design.Pairs.{pairs_of}
use Rattle.fields.proofs.Parts.{next_part, three_parts, array_is}
use Rattle.cs_data_record.proofs.Pairs.{both_arrays}
use Rattle.cs_data_record.proofs.store.Goals as goal

abbrev headed : CsDataLayout → List ℕ
headed l = cs_data_head l ++ l.data_pin_gpios ++ pairs_of 60 l.select_lines

headed_long : (l : CsDataLayout) → length l.data_pin_gpios ≡ 16 → length (headed l) ≡ 88
headed_long l n = rw (length-append, length-append, n, tab-length)

stored : (l : CsDataLayout) (old new : List ℕ) → length l.data_pin_gpios ≡ 16
    → new ≡ (headed l ++ pairs_of 12 l.commoned_lines) ++ drop cs_data_size old → new ≡ cs_data_bytes l ++ drop cs_data_size old
unfolding cs_data_bytes
stored l old new n e =
    let front = cs_data_head l ++ l.data_pin_gpios in
    let grouped = append_assoc front (pairs_of 60 l.select_lines) (pairs_of 12 l.commoned_lines) ∙ ap (λ x. front ++ x) (both_arrays l) in
    rw (array_is 0 l.data_pin_gpios 16 n) (e ∙ ap (λ x. x ++ drop cs_data_size old) grouped)

pub returns : goal.returns
returns c =
    let l = c.args.l in
    let old = c.args.out.now in
    let three = three_parts (cs_data_head l) l.data_pin_gpios (pairs_of 60 l.select_lines) old _ _ _ _ 12 16 60 refl (let h : length c.args.l.data_pin_gpios ≡ 16 = search rules in h) (tab-length _ 60) (omega arith)
    c.head-head.ensures c.copy.ensures.buffer_after c.copy-2.ensures.buffer_after
    (rw c.pair_bytes-selects.ensures at c.copy-3.ensures.buffer_after) in
    stored l old _ (let h : length c.args.l.data_pin_gpios ≡ 16 = search rules in h)
    (next_part (headed l) (pairs_of 12 l.commoned_lines) old _ _ 88 12 (headed_long l (let h : length c.args.l.data_pin_gpios ≡ 16 = search rules in h)) (tab-length _ 12) c.requires three
    (rw c.pair_bytes-commoned.ensures at c.copy-4.ensures.buffer_after))
