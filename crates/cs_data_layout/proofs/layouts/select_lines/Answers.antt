-- `select_lines` meets its contract. The loop's invariant: the lines passed are in place. Assumes nothing.
use mathlib.Core.Path.{◌≡◌, refl, ◌∙◌}
use mathlib.Core.Bool.{Bool, true, false, cond}
use mathlib.Core.List.{List}
use Prim.Native.Nat.{ℕ, ◌+◌, ◌≤◌}
use native.Mathlib.Omega.{arith}
use lib.Dec.{ltb}
use lib.ListN.{length, get_or, take}
use lib.Seq.{length-take-le}
use borrow.Author.Tests.{le-ltb}
use Rattle.lists.specs.Tab.{tab}
use Rattle.lists.proofs.Tab.{Begun, begun_none, begun_turn, begun_all, filled}
use Rattle.addr_layout.specs.declared.layout.AddrLayout.{AddrLayout}
use Rattle.cs_data_layout.specs.Layout.{line}
use Rattle.cs_data_layout.specs.Choices.{select_line}
use Rattle.cs_data_layout.specs.declared.layout.SelectLine.{SelectLine}
use borrow.Author.Rules.{rules}
use Rattle.cs_data_layout.proofs.layouts.select_lines.Goals as goal

-- past the lines nothing stands
module _ (roles : List ℕ) (n : ℕ) (h : AddrLayout) (gpio : ℕ → ℕ) (long : n ≤ length roles) where
  abbrev line_of : ℕ → SelectLine
  line_of k = select_line (take n roles) h gpio k

  past : (j : ℕ) → n + h.num_excess ≤ j → line_of j ≡ line 0 0
  past j l = rw (length-take-le n roles long, le-ltb j n (omega arith), le-ltb j (n + h.num_excess) l)

  done : (out : List SelectLine) (k count : ℕ) (t : Bool) → Begun 30 line_of (line 0 0) out k → count ≤ k → ltb (n + h.num_excess) 30 ≡ t
      → count ≡ cond t (n + h.num_excess) 30 → out ≡ tab 30 line_of
  done out k count true i l e q = begun_all i (λ j m. past j (omega arith))
  done out k count false i l e q = filled i.begun (omega arith)

of_entry : (roles : List ℕ) (h : AddrLayout) (gpios : List ℕ) (at k g : ℕ) (l : SelectLine) → l ≡ select_line roles h (λ j. g) k → g ≡ get_or gpios (at + k) 0
    → l ≡ select_line roles h (λ j. get_or gpios (at + j) 0) k
of_entry roles h gpios at k g l e f = e ∙ rw f

pub loop-k-init : goal.loop-k-init
loop-k-init c = (begun_none, omega arith, c.num_lines-count.ensures.1, search rules, search rules)

pub loop-k-preserved : goal.loop-k-preserved
loop-k-preserved c =
    let i = c.loop-k.invariant in
    let a = c.args in (
      begun_turn i.0 (omega arith)
          (of_entry (take a.r.count a.r.roles) a.h a.gpios a.at c.loop-k.k _ _ c.select_line.ensures c.entry.ensures),
      omega arith,
      i.2,
      i.3,
      i.4,
    )

pub returns : goal.returns
returns c =
    let a = c.args in
    let long : length a.r.roles ≡ 8 = search rules in
    done a.r.roles a.r.count a.h (λ j. get_or a.gpios (a.at + j) 0) (omega arith) _ _ _ _ c.loop-k.invariant.0 (omega arith) refl c.num_lines-count.ensures.0
