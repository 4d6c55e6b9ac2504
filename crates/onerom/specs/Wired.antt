-- What the call that tests a slot's wiring answers. Assumes nothing.
use Rattle.std.specs.Prelude.{ℕ, ◌≡◌, true, cond, List, Ok}
use Rattle.slot.specs.declared.description.Description.{Description}
use Rattle.domain.specs.Domain.{package_in}
use Rattle.refusal.specs.declared.Refusal.TheVariants.{OutOfDomain}
use Rattle.description_record.specs.Record.{decoded_of}
use Rattle.addr_record.specs.AddrRecord.{layout_at, layout_formed}
use Rattle.premises.specs.WellWired.{WellWired}
use Rattle.premises.specs.Wired.{wired}
use Rattle.calls.specs.Packed.{packed}
use Rattle.calls.specs.Calls.{if_record}

-- 0 where the slot is well wired, and 1, which is no refusal's result, where it is not
abbrev pub wired_as : Description → List ℕ → ℕ
wired_as d layout = cond (wired d (layout_at layout)) 0 1

-- 02 Slip 3 2: a board that does not keep to its package is refused, and its wiring is not looked at
abbrev pub wired_from : Description → List ℕ → ℕ
wired_from d layout = cond (package_in d.«package» d.board) (wired_as d layout) (packed OutOfDomain)

-- `onerom_well_wired` of a description's bytes and of those of an address layout
-- 01 Number 1: bytes that are no such records are refused
unfoldable pub wired_call : List ℕ → List ℕ → ℕ
wired_call description layout =
    cond (layout_formed layout)
    (if_record (λ d. wired_from d layout) (λ why. packed why) (decoded_of description))
    (packed OutOfDomain)

-- the board of a description keeps to its package
abbrev pub InPackage : Description → Type 0
InPackage d = package_in d.«package» d.board ≡ true

-- the call returns 0 just where its bytes are records of a description and a layout that are well wired, and the board keeps to its
-- package
pub record WiredLaw (description layout : List ℕ) : Type 0 where
  pub zero_is : wired_call description layout ≡ 0
      → ((decoded_of description).answer ≡ Ok tt) × (layout_formed layout ≡ true) × InPackage (decoded_of description).description
      × WellWired (decoded_of description).description (layout_at layout)
  pub zero_if : (decoded_of description).answer ≡ Ok tt → layout_formed layout ≡ true → InPackage (decoded_of description).description
      → WellWired (decoded_of description).description (layout_at layout) → wired_call description layout ≡ 0
