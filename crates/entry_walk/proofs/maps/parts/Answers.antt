-- `parts` meets its contract. The loop's invariant: the tables of the maps passed stand one behind the other. Assumes nothing.
use mathlib.Core.Path.{◌≡◌, sym, ◌∙◌, ap}
use mathlib.Core.List.{List}
use Prim.Native.Nat.{ℕ, ◌+◌, ◌*◌, ◌/◌, ◌%◌, ◌≤◌, ◌<◌}
use native.Mathlib.Decide.{dec_lt}
use native.Mathlib.Omega.{arith}
use lib.ListN.{length, get_or}
use Rattle.lists.specs.Tab.{tab}
use Rattle.lists.proofs.Tab.{tab_is, get_or-tab}
use Rattle.entry_words.specs.Design.Reading.{gathered, no_map}
use Rattle.entry_words.specs.declared.Map.{Map}
use Rattle.entry_walk.specs.Design.Tables.{Put}
use Rattle.entry_rows.specs.Design.Rows.{byte_tables}
use Rattle.entry_walk.proofs.maps.parts.Invariants.{Standing}
use Rattle.entry_walk.proofs.maps.parts.Goals as goal

module _ (maps : List Map) (unit : ℕ) where
  begin : (out : List ℕ) → length out ≡ 1280 → Standing maps unit out 0
  begin out l = record { within = omega arith; long = l; there = λ j h. absurd (omega arith) }

  turn : (old new table : List ℕ) (k : ℕ) → Standing maps unit old k → k < 5 → length new ≡ length old → table ≡ tab 256 (λ q. gathered (get_or maps k no_map) (q * unit))
      → Put (k * 256) table old new → Standing maps unit new (k + 1)
  turn old new table k s h l e p = record {
    within = omega arith;
    long = l ∙ s.long;
    there = λ j b. elim (dec_lt j (k * 256)) [
      | yes q ↦ p.before j q ∙ s.there j q
      | no q ↦
          let high : j / 256 ≡ k = omega arith in
          let low : j % 256 < 256 = omega arith in
          let whole : k * 256 + j % 256 ≡ j = omega arith in
          let here : get_or new (k * 256 + j % 256) 0 ≡ gathered (get_or maps k no_map) (j % 256 * unit) =
          p.there (j % 256) low ∙ ap (λ (x : List ℕ). get_or x (j % 256) 0) e ∙ get_or-tab (λ q. gathered (get_or maps k no_map) (q * unit)) 256 (j % 256) 0 low in
          rw high (rw whole at here)
    ];
  }

  done : (out : List ℕ) (k : ℕ) → Standing maps unit out k → 5 ≤ k → out ≡ byte_tables maps unit
  done out k s h = sym (tab_is _ out 0 1280 s.long (λ j b. sym (s.there j (omega (arith, s.within)))))

pub loop-k-preserved : goal.loop-k-preserved
loop-k-preserved c =
    let l = c.loop-k in
    turn _ _ _ _ _ l.k l.invariant (omega arith) c.put_table.auto.out c.byte_table-table.ensures c.put_table.ensures

pub returns : goal.returns
returns c = done _ _ _ _ c.loop-k.invariant c.loop-k-test.false
