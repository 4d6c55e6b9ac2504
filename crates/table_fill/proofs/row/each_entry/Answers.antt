-- `each_entry` meets its contract. The loop's invariant: what the next index says, and the entries passed. Assumes nothing.
use mathlib.Core.Path.{◌∙◌}
use Prim.Native.Nat.{◌+◌, ◌*◌, ◌≤◌, ◌<◌}
use native.Mathlib.Omega.{arith}
use lib.ListN.{length}
use Rattle.table_fill.proofs.Rows.{Reached, reached-turn, source_in, row_room, byte-tables, picks-eight}
use Rattle.table_fill.proofs.row.each_entry.Goals.{In-loop-q}
use Rattle.table_fill.proofs.row.each_entry.Goals as goal

-- what is known in a turn: the function's start, what the index says, and its entry's room in the table
reached : (c : In-loop-q) → Reached c.args.order c.args.w c.args.bytes c.args.from.sources c.args.from.pad c.args.row c.args.images.now c.args.table.now c.loop-q.table c.loop-q.address c.loop-q.picks c.loop-q.q
reached c = c.loop-q.invariant.2 c.args.w c.requires

bytes : (c : In-loop-q) → c.args.bytes ≤ 2
bytes c = rw c.requires.bytes_are c.requires.wiring_in.bytes

picks : (c : In-loop-q) → c.loop-q.picks < 8
picks c = rw (reached c).picks_are (picks-eight c.args.w (c.args.row.first + c.loop-q.q) c.requires.wiring_in)

room : (c : In-loop-q) → (c.args.row.first + c.loop-q.q) * c.args.bytes + c.args.bytes ≤ length c.loop-q.table
room c = rw c.loop-q.invariant.1 (row_room _ _ _ _ _ _ _ _ _ _ _ c.requires c.loop-q.q c.loop-q-test.true)

pub bounds-sources-picks : goal.bounds-sources-picks
bounds-sources-picks c = picks c

pub raw-word-requires : goal.raw-word-requires
raw-word-requires c =
    record { bytes = (let h : c.args.bytes ≤ 2 = rw c.requires.bytes_are c.requires.wiring_in.bytes in h); source_in = source_in _ _ _ _ _ _ _ _ _ _ _ c.requires _ _ (let h : Reached c.args.order c.args.w c.args.bytes c.args.from.sources c.args.from.pad c.args.row c.args.images.now c.args.table.now c.loop-q.table c.loop-q.address c.loop-q.picks c.loop-q.q = c.loop-q.invariant.2 c.args.w c.requires in h).picks_are; pad_short = c.requires.pad_short }

pub loop-q-preserved : goal.loop-q-preserved
loop-q-preserved c =
    let v = c.loop-q in
    let raw = c.raw-word in
    let put = c.put_word in (
      omega (arith, c.loop-q-test.true),
      put.auto.out ∙ v.invariant.1,
      λ w h.
          reached-turn w _ _ _ _ _ _ _ _ _ _ h _ _ _ _ _ v.q _ _ _ _ (v.invariant.2 w h) raw.ensures.value raw.ensures.upper_bound c.scrambled-entry.ensures put.ensures c.next_address-address.ensures c.next_address-picks.ensures,
    )

pub scrambled-entry-requires : goal.scrambled-entry-requires
scrambled-entry-requires c = (
  (let h : c.args.bytes ≤ 2 = rw c.requires.bytes_are c.requires.wiring_in.bytes in h),
  c.raw-word.ensures.upper_bound,
  byte-tables _ _ _ _ _ c.requires.tables,
)
