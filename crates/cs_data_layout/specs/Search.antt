-- cs_data_layout.rs, `derive_cs_data_layout`: the select search. Assumes nothing.
use Rattle.refusal.specs.declared.Refusal.{Refusal}
use Rattle.std.specs.Prelude.{◌^◌, Bool, true, ◌&&◌, cond, ltb, Option, Some, None, is_none, Result, Ok, Err}
use Rattle.slot.specs.Description.{cs1_kind}
use Rattle.slot.specs.declared.description.Description.{Description}
use Rattle.refusal.specs.declared.Refusal.TheVariants.{OutOfDomain, MissingAddrPinGpios, RomTooLargeNoCsConfig, NoValidLayout}
use Rattle.domain.specs.Domain.{qualifiers_in}
use Rattle.control.specs.CsConfig.{ignores}
use Rattle.listing.specs.Listing.{twos, first_fault}
use Rattle.refusal.specs.First.{or_else}
use Rattle.search.specs.Search.{best}
use Rattle.search.specs.declared.Found.{Found}
use Rattle.addr_layout.specs.Layout.{layout_in}
use Rattle.addr_layout.specs.declared.layout.AddrLayout.{AddrLayout}
use Rattle.cs_pins.specs.Pins.{data_listed, numbered, cs_search_in}
use Rattle.cs_checked.specs.Checked.{checked}
use Rattle.cs_data_layout.specs.Layout.{handed}
use Rattle.cs_verdict.specs.Verdict.{verdict_trial}
use Rattle.cs_choices.specs.Nothing.{nothing_fits}
use Rattle.cs_data_layout.specs.Choices.{cs_verdict, cs_data_layout_of, ignored_set}
use Rattle.cs_data_layout.specs.declared.layout.CsDataLayout.{CsDataLayout}

-- 01 Domain 13: an address layout that is given is tested
-- 01 Domain 15: qualifiers are tested along with the address layout, and go untested where none is given
abbrev pub given_in : Description → Option AddrLayout → Bool
given_in d None = true
given_in d (Some l) = layout_in l && qualifiers_in d.qualifiers d.num_qualifiers l.gpios l.num_lines

-- 01 Number 5: there are qualifiers, and no address layout is given
abbrev pub missing_layout : Description → Option AddrLayout → Option Refusal
missing_layout d a = cond (is_none a && ltb 0 d.num_qualifiers) (Some MissingAddrPinGpios) None

-- 01 Number 6: the address layout has excess lines, and the setting that is read for cs1 is to ignore it
abbrev pub rom_too_large : Description → AddrLayout → Option Refusal
rom_too_large d h = cond (ltb 0 h.num_excess && ignores d.cs_config cs1_kind) (Some RomTooLargeNoCsConfig) None

-- 01 cs_data_layout 1: 5 is tested first, then 6, then the data pins, then the select pins
unfoldable pub earlier : Description → Option AddrLayout → Option Refusal
earlier d a =
    or_else (missing_layout d a)
    (or_else (rom_too_large d (handed a)) (or_else (first_fault (data_listed d)) (first_fault (checked d))))

-- 00 Demand 2: what is found is the best of all choices
unfoldable pub cs_best : Description → AddrLayout → Option Found
cs_best d h = best (λ c. verdict_trial (cs_verdict d h c)) (2 ^ twos (numbered d))

-- 01 Number 9: no choice fits, and neither 8 nor 7 says why
-- 01 cs_data_layout 9: 9 is what is left after 8 and 7
abbrev pub or_no_layout : Option Refusal → Result CsDataLayout Refusal
or_no_layout (Some r) = Err r
or_no_layout None = Err NoValidLayout

-- 01 cs_data_layout 9: the verdicts on all choices decide between 8, 7 and 9
unfoldable pub none_fits : Description → AddrLayout → Result CsDataLayout Refusal
none_fits d h = or_no_layout (nothing_fits (ignored_set d) (cs_verdict d h) (2 ^ twos (numbered d)))

abbrev pub cs_data_answer_of : Description → AddrLayout → Option Found → Result CsDataLayout Refusal
cs_data_answer_of d h None = none_fits d h
cs_data_answer_of d h (Some f) = Ok (cs_data_layout_of d h (numbered d) f.choice)

abbrev pub after_earlier : Description → AddrLayout → Option Refusal → Result CsDataLayout Refusal
after_earlier d h (Some r) = Err r
after_earlier d h None = cs_data_answer_of d h (cs_best d h)

-- 01 Number 1: the description, the address layout or the qualifiers are outside the domain
-- 01 Numbers 2: the domain is tested before anything else
abbrev pub cs_data_answer : Description → Option AddrLayout → Result CsDataLayout Refusal
cs_data_answer d a =
    cond (cs_search_in d && given_in d a) (after_earlier d (handed a) (earlier d a)) (Err OutOfDomain)
