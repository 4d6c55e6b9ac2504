-- addr_layout.rs, `derive_addr_layout`: the address search. Assumes nothing.
use Rattle.refusal.specs.declared.Refusal.{Refusal}
use Rattle.std.specs.Prelude.{◌^◌, Bool, ◌&&◌, cond, leb, Option, Some, None, Result, Ok, Err}
use Rattle.slot.specs.declared.description.Description.{Description}
use Rattle.refusal.specs.declared.Refusal.TheVariants.{OutOfDomain, NoValidLayout}
use Rattle.domain.specs.Domain.{description_in}
use Rattle.listing.specs.Listing.{twos, first_fault}
use Rattle.search.specs.Search.{best}
use Rattle.search.specs.declared.Found.{Found}
use Rattle.addr_lines.specs.Lines.{addr_listed}
use Rattle.addr_choices.specs.Choices.{addr_trial}
use Rattle.addr_layout.specs.Layouts.{addr_layout_of}
use Rattle.addr_layout.specs.declared.layout.AddrLayout.{AddrLayout}

-- 01 Domain 8: of the pins that this search lists, no more than 16 have two candidates
abbrev pub addr_search_in : Description → Bool
addr_search_in d = description_in d && leb (twos (addr_listed d)) 16

-- 00 Demand 2: what is found is the best of all choices
unfoldable pub addr_best : Description → Option Found
addr_best d = best (addr_trial d) (2 ^ twos (addr_listed d))

-- 01 Number 9: no choice fits
abbrev pub addr_answer_of : Description → Option Found → Result AddrLayout Refusal
addr_answer_of d None = Err NoValidLayout
addr_answer_of d (Some f) = Ok (addr_layout_of d (addr_listed d) f.choice)

-- 01 addr_layout 6: if listed pins are at fault, the first such pin decides the answer, and no choice is tried
abbrev pub after_faults : Description → Option Refusal → Result AddrLayout Refusal
after_faults d (Some r) = Err r
after_faults d None = addr_answer_of d (addr_best d)

-- 01 Number 1: the description is outside the domain
-- 01 Numbers 2: the domain is tested before any pin is looked at
abbrev pub addr_answer : Description → Result AddrLayout Refusal
addr_answer d = cond (addr_search_in d) (after_faults d (first_fault (addr_listed d))) (Err OutOfDomain)
