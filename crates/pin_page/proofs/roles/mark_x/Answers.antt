-- `mark_x` meets its contract. Assumes nothing.
use Rattle.std.specs.Prelude.{Option, Some, None}
use Rattle.std.proofs.Common.{◌≡◌, ℕ, List, refl}
use Rattle.pin_page.specs.Roles.{x_line}
use Rattle.pin_page.specs.Design.Marks.{marked_all}
use Rattle.pin_page.proofs.roles.mark_x.Goals as goal

-- no pin, no line
unmarked : (roles : List ℕ) (role : ℕ) (x : Option ℕ) → ((gpio : ℕ) → x ≡ Some gpio → ⊥) → roles ≡ marked_all roles (x_line role x)
unfolding marked_all
unmarked roles role (Some gpio) h = absurd (h gpio refl)
unmarked roles role None h = refl

pub returns-in-Some : goal.returns-in-Some
unfolding marked_all
returns-in-Some c = rw c.in-Some.is c.mark.ensures

pub returns-in_default : goal.returns-in_default
returns-in_default c = unmarked _ _ _ c.in_default.not-Some
