-- The premises of demand 3 say no more and no less than their tests. So a premise made stronger or weaker breaks this. Assumes nothing.
use Rattle.std.specs.Prelude.{◌≡◌, true, List, ℕ, length}
use Rattle.slot.specs.declared.description.Description.{Description}
use Rattle.addr_layout.specs.declared.layout.AddrLayout.{AddrLayout}
use Rattle.cs_data_layout.specs.declared.layout.CsDataLayout.{CsDataLayout}
use Rattle.stored_slot.specs.declared.stored.StoredSlot.{StoredSlot}
use Rattle.premises.specs.WellWired.{WellWired, StoredAs, Unforced}
use Rattle.premises.specs.Room.{Room}
use Rattle.premises.specs.Wired.{wired}
use Rattle.premises.specs.Given.{roomy, nothing_forced, stored_well}

pub record PremiseLaw : Type 0 where
  pub wired_is : (d : Description) (a : AddrLayout) → wired d a ≡ true → WellWired d a
  pub wired_if : (d : Description) (a : AddrLayout) → WellWired d a → wired d a ≡ true
  pub stored_is : (d : Description) (a : AddrLayout) (c : CsDataLayout) (s : StoredSlot) → stored_well d a c s ≡ true → StoredAs d a c s
  pub stored_if : (d : Description) (a : AddrLayout) (c : CsDataLayout) (s : StoredSlot) → StoredAs d a c s → stored_well d a c s ≡ true
  pub unforced_is : (a : AddrLayout) (s : StoredSlot) → nothing_forced a s ≡ true → Unforced a s
  pub unforced_if : (a : AddrLayout) (s : StoredSlot) → Unforced a s → nothing_forced a s ≡ true
  pub room_is : (d : Description) (a : AddrLayout) (output marks : List ℕ) → roomy d a (length output) (length marks) ≡ true
      → Room d a output marks
  pub room_if : (d : Description) (a : AddrLayout) (output marks : List ℕ) → Room d a output marks
      → roomy d a (length output) (length marks) ≡ true
