-- `rom_of` meets its contract. Assumes nothing.
use Prim.Native.Nat.{◌+◌, ◌-◌}
use native.Mathlib.Omega.{arith}
use lib.Pow.{shl_exact}
use Rattle.byte_tables.proofs.Tables.{one_up}
use Rattle.rom_entries.proofs.rom_of.Goals as goal

pub returns : goal.returns
returns c =
    let a = c.args in
    rw (shl_exact a.picks.lines a.map.lines 32 c.requires.b_bound (omega arith), one_up (a.picks.lines + a.map.lines) 32 (omega arith), one_up (a.order.lines - (a.picks.lines + a.map.lines)) 32 (omega arith))
