-- `store` meets its contract: the three parts of the record stand one behind the other. Assumes nothing.
use mathlib.Core.Path.{◌≡◌, refl}
use mathlib.Core.List.{List, ◌++◌}
use Prim.Native.Nat.{ℕ}
use lib.ListN.{length, drop}
use borrow.Author.Rules.{rules}
use Rattle.addr_layout.specs.declared.layout.AddrLayout.{AddrLayout}
use Rattle.addr_record.specs.AddrRecord.{addr_size, addr_head, inverted_bytes, layout_bytes}
use Rattle.fields.proofs.Parts.{three_parts, array_is}
use Rattle.addr_record.proofs.store.Goals as goal

stored : (l : AddrLayout) (old new : List ℕ) → length l.gpios ≡ 24
    → new ≡ (addr_head l ++ l.gpios ++ inverted_bytes) ++ drop addr_size old → new ≡ layout_bytes l ++ drop addr_size old
unfolding layout_bytes
stored l old new n e = rw (array_is 0 l.gpios 24 n) e

pub returns : goal.returns
returns c =
    let k1 = c.copy in
    let k2 = c.copy-2 in
    let k3 = c.copy-3 in
    let head = c.head-head in
    stored c.args.l c.args.out.now _ (let h : length c.args.l.gpios ≡ 24 = search rules in h)
    (three_parts (addr_head c.args.l) c.args.l.gpios inverted_bytes c.args.out.now _ _ _ _ 8 24 4 refl (let h : length c.args.l.gpios ≡ 24 = search rules in h) refl c.requires
    head.ensures k1.ensures.buffer_after k2.ensures.buffer_after k3.ensures.buffer_after)
