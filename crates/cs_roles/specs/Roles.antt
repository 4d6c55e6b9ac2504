-- The roles of the select lines: 0 ce, 1 oe, 2 to 5 cs1 to cs4, 6 X1, 7 X2. Assumes nothing.
use Rattle.std.specs.Prelude.{ℕ, zero, suc, Bool, cond, List, [], ◌∷◌, ◌++◌, leb, take}
use Rattle.slot.specs.Description.{is_multi, chip0, kind_at}
use Rattle.slot.specs.declared.description.Description.{Description}
use Rattle.cs_pins.specs.Pins.{active}
use Rattle.cs_roles.specs.declared.Roles.{Roles}

-- the role of a control line is its kind; those of X1, of X2 and of an excess line go on from there
abbrev pub x1_role : ℕ
x1_role = 6

abbrev pub x2_role : ℕ
x2_role = 7

abbrev pub half_role : ℕ
half_role = 8

-- the roles of the select lines, in the order of their pins
abbrev pub if_active_kind : Description → ℕ → List ℕ
if_active_kind d k = cond (active d k) (kind_at (chip0 d).control k ∷ []) []

unfoldable pub active_kinds : Description → ℕ → List ℕ
active_kinds d zero = []
active_kinds d (suc k) = active_kinds d k ++ if_active_kind d k

abbrev pub x_roles : Bool → Bool → List ℕ
x_roles one both = cond one (x1_role ∷ cond both (x2_role ∷ []) []) []

-- 01 cs_data_layout 6: the roles stand in the order in which the select pins are numbered
unfoldable pub select_roles : Description → List ℕ
select_roles d =
    cond (is_multi d.set_type) (d.multi.select ∷ x_roles (leb 2 d.num_chips) (leb 3 d.num_chips))
    (active_kinds d (chip0 d).control.count)

-- 01 Shape 2: the list of roles is an array up to its count
abbrev pub roles_of : Roles → List ℕ
roles_of r = take r.count r.roles
