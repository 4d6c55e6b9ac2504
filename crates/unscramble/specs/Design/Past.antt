-- The tests before the entries are past. Assumes nothing.
use Rattle.std.specs.Prelude.{◌≡◌, true, List, ℕ, None}
use Rattle.slot.specs.declared.description.ChipSetType.{ChipSetType}
use Rattle.stored_slot.specs.Stored.{stored_in}
use Rattle.stored_slot.specs.Faults.{roms_fault}
use Rattle.stored_slot.specs.declared.stored.StoredSlot.{StoredSlot}

-- the slot is in the domain, and no test finds a fault in it, for lent buffers of so many bytes
pub record PastTests (s : StoredSlot) (set : ChipSetType) (stored : List ℕ) (output marks : ℕ) : Type 0 where
  pub domain : stored_in s ≡ true
  pub no_fault : roms_fault s set stored output marks ≡ None
