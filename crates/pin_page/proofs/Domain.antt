-- What the domain says of the lines that are marked. Assumes nothing.
use mathlib.Core.Path.{◌≡◌}
use mathlib.Core.Bool.{Bool, true}
use Prim.Native.Nat.{ℕ, ◌≤◌, ◌<◌}
use lib.Dec.{leb}
use borrow.Author.Tests.{leb-true}
use Rattle.lists.proofs.Bools.{and_left}
use Rattle.lists.proofs.Each.{each_at}
use Rattle.cs_roles.specs.Roles.{half_role}
use Rattle.gpio.specs.Candidates.{gpio_in}
use Rattle.cs_data_layout.specs.declared.layout.CsDataLayout.{CsDataLayout}
use Rattle.build_args.specs.Domain.{select_line_of, select_line_in, select_lines_in}

-- a line's role is one of the nine
pub line_role_in : (c : CsDataLayout) (is_commoned : Bool) (n k : ℕ) → select_lines_in c is_commoned n ≡ true → k < n → (select_line_of c is_commoned k).role ≤ half_role
unfolding select_lines_in
line_role_in c is_commoned n k h l =
    leb-true (select_line_of c is_commoned k).role half_role
    (and_left (leb (select_line_of c is_commoned k).role half_role) (gpio_in (select_line_of c is_commoned k).gpio)
    (each_at (λ j. select_line_in (select_line_of c is_commoned j)) n h k l))
