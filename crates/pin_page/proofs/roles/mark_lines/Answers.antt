-- `mark_lines` meets its contract. The loop's invariant: the lines passed are marked. Assumes nothing.
use mathlib.Core.Path.{refl, ◌∙◌, ap}
use native.Mathlib.Omega.{arith}
use Rattle.cs_data_layout.specs.declared.layout.SelectLine.{SelectLine}
use Rattle.pin_page.specs.Roles.{page_line, line_role}
use Rattle.pin_page.proofs.Marks.{marks-none, marks-turn}
use Rattle.pin_page.proofs.Domain.{line_role_in}
use Rattle.pin_page.proofs.roles.mark_lines.Goals as goal

pub loop-k-init : goal.loop-k-init
loop-k-init c = (omega arith, refl, marks-none _ _)

pub line_role-requires : goal.line_role-requires
line_role-requires c =
    let v = c.loop-k in
    omega
    (arith, ap (λ (l : SelectLine). l.role) c.line_of-line.ensures, line_role_in c.args.c c.args.commoned c.args.n v.k c.requires (omega arith))

pub loop-k-preserved : goal.loop-k-preserved
loop-k-preserved c =
    let v = c.loop-k in
    let m = c.mark in
    let l = c.line_of-line in (
      omega arith,
      m.auto.roles ∙ v.invariant.1,
      marks-turn _ _ _ _ _ _ v.invariant.2 m.ensures
          (ap (λ r. page_line r l.result.gpio) c.line_role.ensures
          ∙ ap (λ (x : SelectLine). page_line (line_role c.args.commoned x.role) x.gpio) l.ensures),
    )
