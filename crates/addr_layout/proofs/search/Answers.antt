-- `search` meets its contract. Assumes nothing.
use Rattle.std.specs.Prelude.{Option, Result, Ok}
use Rattle.refusal.specs.declared.Refusal.{Refusal}
use mathlib.Core.Path.{◌≡◌, sym, ◌∙◌, ap}
use mathlib.Core.List.{List}
use Prim.Native.Nat.{ℕ, ◌^◌}
use Rattle.slot.specs.declared.description.Description.{Description}
use Rattle.listing.specs.Listing.{twos}
use Rattle.listing.specs.Design.Packed.{list_of}
use Rattle.listing.specs.declared.Listed.{Listed}
use Rattle.search.specs.Search.{best}
use Rattle.search.specs.declared.Found.{Found}
use Rattle.search.proofs.Law.{found-best}
use Rattle.addr_lines.specs.Lines.{addr_listed}
use Rattle.addr_choices.specs.Choices.{spanning_of, choice_span, span_trial}
use Rattle.addr_choices.specs.declared.Spanning.{Spanning}
use Rattle.addr_layout.specs.Layouts.{addr_layout_of}
use Rattle.addr_layout.specs.Search.{addr_best, addr_answer_of}
use Rattle.addr_layout.specs.declared.layout.AddrLayout.{AddrLayout}
use Rattle.addr_layout.proofs.search.Goals as goal

-- a choice's trial, of the pins as the code listed them
abbrev trial : List Listed → Spanning → ℕ → Option ℕ
trial ls every c = span_trial (choice_span ls every c)

best_is : (d : Description) (ls : List Listed) (every : Spanning) (bits : ℕ) (found : Option Found) → ls ≡ addr_listed d → every ≡ spanning_of d → bits ≡ twos ls
    → found ≡ best (trial ls every) (2 ^ bits) → found ≡ addr_best d
unfolding addr_best
best_is d ls every bits found el ee eb e = rw (e, eb, el, ee)

abbrev laid : Description → List Listed → ℕ → Result AddrLayout Refusal
laid d ls c = Ok (addr_layout_of d ls c)

pub laid_out-requires : goal.laid_out-requires
laid_out-requires c =
    let every = c.every_choice-every in
    let found = sym c.best.ensures ∙ c.in-Some.is in
    record {
      pins = c.requires.pins;
      address-lines = c.requires.address-lines;
      spanning = every.ensures;
      fits = rw every.ensures at (found-best (trial (list_of c.args.l) every.result) _ _ _ found).fits;
    }

pub returns-in-None : goal.returns-in-None
returns-in-None c =
    let best = best_is c.args.d (list_of c.args.l) _ _ _ c.requires.listed c.every_choice-every.ensures c.requires.counted c.best.ensures in
    ap (addr_answer_of c.args.d) (sym c.in-None.is ∙ best)

pub returns-in-Some : goal.returns-in-Some
returns-in-Some c =
    let best = best_is c.args.d (list_of c.args.l) _ _ _ c.requires.listed c.every_choice-every.ensures c.requires.counted c.best.ensures in
    ap Ok c.laid_out.ensures ∙ ap (λ (ls : List Listed). laid c.args.d ls c.in-Some.found.choice) c.requires.listed
    ∙ ap (addr_answer_of c.args.d) (sym c.in-Some.is ∙ best)
