-- Whether two values are the same: candidates, set kinds, GPIOs. Assumes nothing.
use Rattle.std.specs.Prelude.{ℕ, Bool, true, false, ◌&&◌, not, List, eqb, get_or, Option, Some, None}
use Rattle.lists.specs.Each.{each}
use Rattle.gpio.specs.declared.candidates.Candidates.{Candidates}
use Rattle.gpio.specs.declared.candidates.Candidates.TheVariants.{Absent, One, Two}
use Rattle.slot.specs.Description.{is_single, is_multi}
use Rattle.slot.specs.declared.description.ChipSetType.{ChipSetType}
use Rattle.slot.specs.declared.description.ChipSetType.TheVariants.{Single, Banked, Multi}
use Rattle.stored_slot.specs.declared.stored.SlotType.{SlotType}
use Rattle.stored_slot.specs.declared.stored.SlotType.TheVariants.{Unknown, Plugin, Roms}

abbrev pub is_absent : Candidates → Bool
is_absent Absent = true
is_absent (One a) = false
is_absent (Two a b) = false

abbrev pub is_one : Candidates → ℕ → Bool
is_one Absent g = false
is_one (One a) g = eqb a g
is_one (Two a b) g = false

abbrev pub is_both : Candidates → ℕ → ℕ → Bool
is_both Absent g h = false
is_both (One a) g h = false
is_both (Two a b) g h = eqb a g && eqb b h

abbrev pub same_candidates : Candidates → Candidates → Bool
same_candidates Absent e = is_absent e
same_candidates (One g) e = is_one e g
same_candidates (Two g h) e = is_both e g h

abbrev pub same_set : ChipSetType → ChipSetType → Bool
same_set Single t = is_single t
same_set Banked t = not (is_single t) && not (is_multi t)
same_set Multi t = is_multi t

-- whether a slot holds ROMs in a set of this kind
abbrev pub is_roms : SlotType → ChipSetType → Bool
is_roms Unknown t = false
is_roms Plugin t = false
is_roms (Roms u) t = same_set u t

-- whether a line is at a GPIO
abbrev pub is_at : Option ℕ → ℕ → Bool
is_at None g = false
is_at (Some h) g = eqb h g

-- whether two lists have the same first n entries
unfoldable pub same_to : ℕ → List ℕ → List ℕ → Bool
same_to n l m = each n (λ k. eqb (get_or l k 0) (get_or m k 0))
