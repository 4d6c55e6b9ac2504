-- `judge` meets its contract. The loop's invariant: what is left of the text, judged from here, is the text's verdict; and as many lines
-- are counted as there are bytes passed, at most. Assumes nothing.
use mathlib.Core.Path.{refl, sym, ◌∙◌}
use native.Mathlib.Omega.{arith}
use Rattle.hex_read.proofs.Verdicts.{left_none, counted, line_faulty, line-ends, line-sound, no_line}
use Rattle.hex_read.proofs.judge.judge.Goals as goal

-- a line at fault
pub returns-in-Some : goal.returns-in-Some
returns-in-Some c =
    let m = c.before.before.before in
    let v = m.loop-rest in
    line_faulty _ _ _ _ _ _ _ _ m.first_line-first.ensures (sym c.line_fault.ensures ∙ c.in-Some.is) v.invariant.1

pub returns : goal.returns
returns c = no_line c.loop-rest.rest.now _ _ _ _ (omega arith) c.loop-rest.invariant.1

-- the end record
pub returns-then-is_end : goal.returns-then-is_end
returns-then-is_end c =
    let t = c.before.before.before.before in
    let m = t.before.before in
    let v = m.loop-rest in
    c.behind_end.ensures
    ∙ line-ends _ _ _ _ _ _ _ _ m.first_line-first.ensures refl ((sym t.line_fault.ensures ∙ left_none _ c.in_default.not-Some))
    (sym c.is_end.ensures ∙ c.if-is_end.true) v.invariant.1

pub loop-rest-preserved : goal.loop-rest-preserved
loop-rest-preserved c =
    let t = c.before.before.before.before in
    let m = t.before.before in
    let f = m.first_line-first.ensures in
    let v = m.loop-rest in (
      counted v.rest.now _ _ _ f.forward f.inside v.invariant.0,
      line-sound _ _ _ _ _ _ _ _ _ f refl c.upper_after-upper.ensures ((sym t.line_fault.ensures ∙ left_none _ c.in_default.not-Some))
          (sym c.is_end.ensures ∙ c.if-is_end.false) v.invariant.1,
    )
