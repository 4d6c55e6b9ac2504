-- `walk` meets its contract: a row that disagrees is one of the entries. Assumes nothing.
use Rattle.std.proofs.Common.{◌≡◌, ◌+◌, ◌*◌, ◌≤◌, rules, arith}
use Prim.Native.Nat.{min}
use Rattle.std.proofs.Math.Nat.{mul-le-mul_left}
use Rattle.std.proofs.lemmas.Result.{err_from_is_err_and}
use Rattle.entry_rows.proofs.Held.{held-own, same-room}
use Rattle.entry_rows.proofs.RowRead.{row_bad, row-through}
use Rattle.entry_walk.proofs.walk.walk.Goals as goal

pub read_row-requires : goal.read_row-requires
read_row-requires c =
    let l = c.loop-k in
    let here : min (256 * l.k) c.args.entries ≡ 256 * l.k = omega arith in
    let inside : 256 * l.k + c.min.result ≤ c.args.entries = omega arith in
    let p = c.requires.lent in
    let h = rw here at l.invariant in
    record {
      in_row = search rules;
      tables = search rules;
      onward = record { lent = record { reading = p.reading; few = omega (arith, p.few); entries = omega (arith, mul-le-mul_left c.args.r.word_bytes inside, p.entries); room = same-room h p.room }; held = held-own h };
    }

pub returns-in_err-read_row : goal.returns-in_err-read_row
returns-in_err-read_row c =
    let inside : 256 * c.loop-k.k + c.min.result ≤ c.args.entries = omega arith in
    let passed = err_from_is_err_and c.from_residual.result c.from_residual.ensures.1 in
    rw (passed.1, passed.2) (row_bad _ c.loop-k.invariant c.read_row.ensures _ _ c.in_err-read_row.was inside)

-- each row but the last has 256 entries
pub loop-k-preserved : goal.loop-k-preserved
loop-k-preserved c =
    let l = c.loop-k in
    let there : min (256 * (l.k + 1)) c.args.entries ≡ 256 * l.k + c.min.result = omega arith in
    rw there (row-through _ l.invariant c.read_row.ensures c.in_ok-read_row.was c.read_row.auto.output c.read_row.auto.marks)
