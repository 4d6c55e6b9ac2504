-- `search` meets its contract. Assumes nothing.
use Rattle.std.specs.Prelude.{Option, Some, None, Result, Ok, Err}
use Rattle.std.specs.Option.{unwrap_or}
use mathlib.Core.Path.{◌≡◌, ◌∙◌, ap}
use mathlib.Core.Bool.{true}
use Prim.Native.Nat.{ℕ, ◌≤◌}
use native.Mathlib.Omega.{arith}
use lib.ListN.{length}
use Rattle.refusal.specs.declared.Refusal.{Refusal}
use Rattle.refusal.specs.declared.Refusal.TheVariants.{NoValidLayout}
use Rattle.slot.specs.declared.description.Chip.{Chip}
use Rattle.slot.specs.declared.description.Description.{Description}
use Rattle.domain.proofs.Bounds.{chip0_in}
use Rattle.listing.specs.Listing.{twos}
use Rattle.listing.specs.Design.Packed.{list_of}
use Rattle.listing.specs.declared.Listing.{Listing}
use Rattle.search.specs.declared.Found.{Found}
use Rattle.addr_layout.specs.declared.layout.AddrLayout.{AddrLayout}
use Rattle.cs_pins.specs.Pins.{numbered, cs_search_in}
use Rattle.cs_pins.specs.declared.Numbering.{Numbering}
use Rattle.cs_pins.specs.Design.Numbered.{NumberedBy}
use Rattle.cs_pins.proofs.InDomain.{numbered_in}
use Rattle.cs_choices.specs.Design.Parts.{PinsIn}
use Rattle.cs_choices.specs.declared.choices.Fixed.{Fixed}
use Rattle.cs_data_layout.specs.Choices.{num_data, fixed_of, cs_data_layout_of}
use Rattle.cs_data_layout.specs.Search.{cs_best, or_no_layout, none_fits, cs_data_answer_of}
use Rattle.cs_data_layout.specs.declared.layout.CsDataLayout.{CsDataLayout}
use Rattle.cs_data_layout.proofs.Bounds.{described, few-twos, few-lines}
use Rattle.cs_data_layout.proofs.Searched.{data-numbered, best_is, none_is, fixed_is}
use Rattle.cs_data_layout.proofs.search.Goals as goal

-- the listing has the data pins, and its candidates are GPIOs
listed : (d : Description) (l : Numbering) (n : ℕ) → cs_search_in d ≡ true → NumberedBy d l → n ≡ num_data d → PinsIn l.list n
listed d l n e p i =
    let h = p.list e in
    let k : num_data d ≤ length (list_of l.list) = rw h (data-numbered d) in
    record { listed = omega (arith, p.counted, k, i); few = p.few; gpios = rw h (numbered_in d (described d e)) }

few : (d : Description) (l : Listing) (bits : ℕ) → cs_search_in d ≡ true → list_of l ≡ numbered d → bits ≡ twos (list_of l) → bits ≤ 16
few d l bits e h i = let m : bits ≡ twos (numbered d) = i ∙ ap twos h in omega (arith, few-twos d e, m)

nothing : (d : Description) (h : AddrLayout) (g : Option Found) (r : Result CsDataLayout Refusal) → g ≡ cs_best d h → g ≡ None → r ≡ none_fits d h → r ≡ cs_data_answer_of d h (cs_best d h)
nothing d h g r e i j = rw (← e, i) j

found : (d : Description) (h : AddrLayout) (l : Listing) (g : Option Found) (f : Found) (r : Result CsDataLayout Refusal) → g ≡ cs_best d h → g ≡ Some f → list_of l ≡ numbered d
    → r ≡ Ok (cs_data_layout_of d h (list_of l) f.choice) → r ≡ cs_data_answer_of d h (cs_best d h)
found d h l g f r e i j k = rw (← e, i, ← j) k

-- 9 where there is no other reason
refused_by : (why : Option Refusal) (r : Refusal) → r ≡ unwrap_or why NoValidLayout → ◌≡◌ {A = Result CsDataLayout Refusal} (Err r) (or_no_layout why)
refused_by None r e = ap Err e
refused_by (Some w) r e = ap Err e

pub best-requires : goal.best-requires
best-requires c =
    let a = c.args in
    let p = c.requires in
    let number : c.chip0-chip.result.num_data_pins ≡ num_data a.d = ap (λ (x : Chip). x.num_data_pins) c.chip0-chip.ensures in
    record { pins = listed a.d a.pins _ p.description p.pins number; few_bits = few a.d a.pins.list _ p.description (p.pins.list p.description) p.pins.bits }

pub ignored_set-requires : goal.ignored_set-requires
ignored_set-requires c = described c.args.d c.requires.description

pub why-why-requires : goal.why-why-requires
why-why-requires c =
    let a = c.args in
    let p = c.requires in
    let number : c.chip0-chip.result.num_data_pins ≡ num_data a.d = ap (λ (x : Chip). x.num_data_pins) c.chip0-chip.ensures in
    record { pins = listed a.d a.pins _ p.description p.pins number; few_bits = few a.d a.pins.list _ p.description (p.pins.list p.description) p.pins.bits }

pub laid_out-requires : goal.laid_out-requires
laid_out-requires c =
    let a = c.args in
    let p = c.requires in
    let number : c.chip0-chip.result.num_data_pins ≡ num_data a.d = ap (λ (x : Chip). x.num_data_pins) c.chip0-chip.ensures in
    let bounds = chip0_in a.d (described a.d p.description) in
    record {
      lines = record {
        data-pins = bounds.data-pins.1;
        control_lines = bounds.control_lines;
        excess-lines = omega (arith, few-lines a.h p.handed.layout);
        qualifiers = c.qualifier_set.ensures;
      };
      pins = listed a.d a.pins _ p.description p.pins number;
      data_number = number;
      excess = c.excess_set.ensures;
    }

pub returns-in-None : goal.returns-in-None
returns-in-None c =
    let a = c.args in
    let p = c.requires in
    let number : c.chip0-chip.result.num_data_pins ≡ num_data a.d = ap (λ (x : Chip). x.num_data_pins) c.chip0-chip.ensures in
    -- what no choice changes
    let fixed : ◌≡◌ {A = Fixed} (record { multi = c.is_multi.result; num_data = c.chip0-chip.result.num_data_pins; excess = c.excess_set.result; qualifiers = c.qualifier_set.result }) (fixed_of a.d a.h) =
    fixed_is a.d a.h _ _ _ _ c.is_multi.ensures number c.excess_set.ensures c.qualifier_set.ensures in
    let best : c.best.result ≡ cs_best a.d a.h = best_is a.d a.h (list_of a.pins.list) _ _ (p.pins.list p.description) fixed p.pins.bits _ c.best.ensures in
    nothing a.d a.h c.best.result _ best c.in-None.is
    (none_is a.d a.h (list_of a.pins.list) _ _ (p.pins.list p.description) fixed p.pins.bits _ _ _ c.ignored_set.ensures c.why-why.ensures (refused_by _ _ c.unwrap_or.ensures))

pub returns-in-Some : goal.returns-in-Some
returns-in-Some c =
    let a = c.args in
    let p = c.requires in
    let number : c.chip0-chip.result.num_data_pins ≡ num_data a.d = ap (λ (x : Chip). x.num_data_pins) c.chip0-chip.ensures in
    let fixed : ◌≡◌ {A = Fixed} (record { multi = c.is_multi.result; num_data = c.chip0-chip.result.num_data_pins; excess = c.excess_set.result; qualifiers = c.qualifier_set.result }) (fixed_of a.d a.h) =
    fixed_is a.d a.h _ _ _ _ c.is_multi.ensures number c.excess_set.ensures c.qualifier_set.ensures in
    let best : c.best.result ≡ cs_best a.d a.h = best_is a.d a.h (list_of a.pins.list) _ _ (p.pins.list p.description) fixed p.pins.bits _ c.best.ensures in
    found a.d a.h a.pins.list _ _ _ best c.in-Some.is (p.pins.list p.description) (ap Ok c.laid_out.ensures)
