-- `read_ordered` meets its contract. Assumes nothing.
use mathlib.Core.Path.{sym, ◌∙◌}
use Prim.Native.Nat.{ℕ, ◌+◌, ◌<◌}
use native.Mathlib.Omega.{arith}
use lib.ListN.{get_or}
use Rattle.word_rows.proofs.Rows.{wrote_same}
use Rattle.rom_turns.specs.Design.Rom.{turn_start}
use Rattle.rom_turns.proofs.Turns.{width_two}
use Rattle.word_read.proofs.Values.{says_value}
use Rattle.word_read.proofs.read_ordered.Goals as goal

pub returns : goal.returns
returns c =
    let a = c.args in
    let bytes : (i : ℕ) → get_or a.stored.now i 0 < 256 = λ i. omega (arith, c.type_inv.stored i) in
    let v = says_value a.data_map _ _ c.byte_table-low_bytes.ensures c.byte_table-high_bytes.ensures a.rom a.order.positions a.stored.now (width_two _ c.requires.rom_in.width) bytes in
    let read = c.read_turns.ensures in
    record { wrote = wrote_same _ _ _ _ _ _ _ (λ q b. sym (v (a.rom.first + q))) read.wrote; same_turn = λ z d l h x b. read.same_turn z d l h x b ∙ v (turn_start a.rom d + x) }
