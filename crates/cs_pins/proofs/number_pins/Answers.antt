-- `number_pins` meets its contract. Assumes nothing.
use mathlib.Core.Path.{◌≡◌, sym, ◌∙◌, ap}
use mathlib.Core.Bool.{true, false}
use mathlib.Core.List.{List, []}
use Prim.Native.Nat.{ℕ}
use native.Mathlib.Omega.{arith}
use lib.Dec.{leb}
use lib.ListN.{length, length-take, length-map}
use Rattle.lists.proofs.Lists.{mapped_length}
use Rattle.lists.proofs.Loops.{zero_one}
use Rattle.slot.specs.declared.description.Description.{Description}
use Rattle.domain.specs.Domain.{description_in}
use Rattle.listing.specs.Listing.{twos}
use Rattle.listing.specs.declared.Listed.{Listed}
use Rattle.cs_pins.specs.Pins.{numbered, cs_search_in}
use Rattle.cs_pins.proofs.InDomain.{few-numbered}
use borrow.Author.Rules.{rules}
use Rattle.cs_pins.proofs.number_pins.Goals as goal

outside : (d : Description) → description_in d ≡ false → cs_search_in d ≡ false
unfolding cs_search_in
outside d e = rw e

within : (d : Description) (ls : List Listed) (bits : ℕ) → description_in d ≡ true → ls ≡ numbered d → bits ≡ twos ls → leb bits 16 ≡ cs_search_in d
unfolding cs_search_in
within d ls bits e h i = rw (e, i, h)

none-two : (ls : List Listed) → ls ≡ [] → 0 ≡ twos ls
unfolding twos
none-two ls e = rw e

pub list-list-requires : goal.list-list-requires
list-list-requires c = few-numbered c.args.d (sym c.description_in.ensures ∙ c.if-not-description_in.false)

pub returns-then-not-description_in : goal.returns-then-not-description_in
returns-then-not-description_in c =
    let e = outside c.args.d (sym c.description_in.ensures ∙ c.if-not-description_in.true) in
    record {
      verdict = sym e;
      few = omega (arith, c.none.ensures.1);
      counted = c.none.ensures.1 ∙ ap length (sym c.none.ensures.0);
      list = λ t. absurd (zero_one cc);
      bits = none-two _ c.none.ensures.0;
    }

pub returns : goal.returns
returns c =
    let e = sym c.description_in.ensures ∙ c.if-not-description_in.false in
    let l = c.list-list.result in
    let long : length l.pins ≡ 30 = search (mapped_length, rules) in
    record {
      verdict = within c.args.d _ _ e c.list-list.ensures.0 c.choice_bits-bits.ensures.value;
      few = c.list-list.ensures.1;
      counted = simp (length-take, length-map) (omega (arith, c.list-list.ensures.1));
      list = λ t. c.list-list.ensures.0;
      bits = c.choice_bits-bits.ensures.value;
    }
