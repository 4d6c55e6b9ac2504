-- Lines written two bytes a turn, and both arrays of them one behind the other. Assumes nothing.
use mathlib.Core.Path.{◌≡◌, refl, subst}
use mathlib.Core.List.{List, ◌++◌}
use Prim.Native.Nat.{ℕ, ◌+◌, ◌*◌, ◌/◌, ◌%◌, ◌<◌}
use native.Mathlib.Omega.{arith}
use lib.ListN.{get_or, set}
use Rattle.lists.specs.Tab.{tab}
use Rattle.lists.proofs.Tab.{Filled, filled_turn}
use Rattle.cs_data_layout.specs.Layout.{line}
use Rattle.cs_data_layout.specs.declared.layout.SelectLine.{SelectLine}
use Rattle.cs_data_layout.specs.declared.layout.CsDataLayout.{CsDataLayout}
use Rattle.cs_data_record.specs.CsDataRecord.{line_byte, lines_bytes}
use Rattle.cs_data_record.specs.Design.Pairs.{pairs_of}

module _ (lines : List SelectLine) where
  abbrev pub byte_of : ℕ → ℕ
  byte_of j = line_byte (get_or lines (j / 2) (line 0 0)) (j % 2)

  module _ (k : ℕ) where
    first_of : (get_or lines k (line 0 0)).role ≡ byte_of (2 * k)
    first_of =
        let h : 2 * k / 2 ≡ k = omega arith in
        let r : 2 * k % 2 ≡ 0 = omega arith in
        rw (h, r)

    second_of : (get_or lines k (line 0 0)).gpio ≡ byte_of (2 * k + 1)
    second_of =
        let h : (2 * k + 1) / 2 ≡ k = omega arith in
        let r : (2 * k + 1) % 2 ≡ 1 = omega arith in
        rw (h, r)

    -- one turn: both bytes of line k are stored
    pub pair_turn : {n : ℕ} {out : List ℕ} → Filled n byte_of out (2 * k) → 2 * k + 1 < n
        → Filled n byte_of (set (set out (2 * k) (get_or lines k (line 0 0)).role) (2 * k + 1) (get_or lines k (line 0 0)).gpio) (2 * (k + 1))
    pair_turn {n} {out} i h =
        let e : 2 * k + 1 + 1 ≡ 2 * (k + 1) = omega arith in
        let all : List ℕ = set (set out (2 * k) (get_or lines k (line 0 0)).role) (2 * k + 1) (get_or lines k (line 0 0)).gpio in
        subst (λ (x : ℕ). Filled n byte_of all x) e (filled_turn (filled_turn i (omega arith) first_of) (omega arith) second_of)

-- "30 select lines, then 6 commoned lines"
pub both_arrays : (l : CsDataLayout) → pairs_of 60 l.select_lines ++ pairs_of 12 l.commoned_lines ≡ lines_bytes l
unfolding lines_bytes tab
both_arrays l = refl
