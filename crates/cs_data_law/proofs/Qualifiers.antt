-- What a choice's layout says of qualifiers. Assumes nothing.
use Rattle.std.specs.Prelude.{Option, None}
use mathlib.Core.Path.{◌≡◌, sym, ◌∙◌, ap, subst}
use Prim.Native.Nat.{ℕ, ◌+◌, ◌-◌, ◌/◌, ◌%◌, ◌^◌, ◌≤◌, ◌<◌}
use native.Mathlib.Nat.{zero-div}
use native.Mathlib.Omega.{arith}
use lib.Dec.{leb, ltb}
use lib.ListN.{get_or}
use lib.Pow.{shr-shr}
use borrow.Author.Tests.{eq-eqb, ne_eqb, leb-true}
use Rattle.lists.specs.Each.{each}
use Rattle.lists.proofs.Bools.{and_right}
use Rattle.lists.proofs.Each.{each_at}
use Rattle.bits.specs.Bits.{bit}
use Rattle.bits.proofs.Bit.{bit-mod}
use Rattle.gpio.specs.Law.{In}
use Rattle.gpio.specs.Set.{set_of, lowest, end, width}
use Rattle.gpio.proofs.Members.{held_low, held_high, held-most, set-held, held_of}
use Rattle.slot.specs.declared.description.Description.{Description}
use Rattle.domain.specs.Domain.{qualifier_gpio, qualifier_in}
use Rattle.cs_pins.specs.Pins.{numbered}
use Rattle.cs_data_layout.specs.Layout.{handed}
use Rattle.cs_data_layout.specs.Choices.{qualifier_set, cs_data_layout_of}
use Rattle.addr_layout.specs.declared.layout.AddrLayout.{AddrLayout}
use Rattle.cs_data_layout.specs.declared.layout.CsDataLayout.{CsDataLayout}
use Rattle.cs_data_layout.proofs.Searched.{qualifiers_in_lem}
use Rattle.cs_verdict.specs.Verdict.{base_of}
use Rattle.cs_data_law.specs.Law.{PastTests, choice, all_picked}
use Rattle.cs_data_law.specs.Sound.{IsQualifier, qualifier_from, qualifier_end, SomeQualifiers, SoundQualifiers}
use Rattle.cs_data_law.proofs.Gap.{lowest_has, highest_has, not-empty}
use Rattle.cs_data_law.proofs.Lines.{given_in_lem}
use Rattle.cs_data_law.proofs.Parts.{base-below, qualifier_all, qualifier_bits}

module _ (d : Description) (a : Option AddrLayout) (past : PastTests d a) where
  abbrev count : ℕ
  count = d.num_qualifiers

  abbrev gpio_of : ℕ → ℕ
  gpio_of k = qualifier_gpio d.qualifiers (handed a).gpios k

  abbrev qualifiers : ℕ
  qualifiers = qualifier_set d (handed a)

  -- a GPIO is in their set exactly if it is a qualifier's
  pub held_qualifier : (g : ℕ) → In qualifiers g → IsQualifier d a g
  held_qualifier g h = held_of count gpio_of g h

  pub qualifier_held : (g : ℕ) → IsQualifier d a g → In qualifiers g
  qualifier_held g (k, l, e) = subst (In qualifiers) e (set-held count gpio_of k l)

  -- any two of them are at most 7 apart
  apart : (j k : ℕ) → j < count → k < count → gpio_of k ≤ gpio_of j + 7
  unfolding qualifier_in
  apart j k l m =
      let listed = qualifiers_in_lem d a (given_in_lem d a past) past.no_fault in
      let all = and_right (leb count 8) (each count (λ i. qualifier_in d.qualifiers count (handed a).gpios (handed a).num_lines i)) listed in
      let one = each_at (λ i. qualifier_in d.qualifiers count (handed a).gpios (handed a).num_lines i) count all k m in
      let near = and_right (ltb (get_or d.qualifiers k 0) (handed a).num_lines) (each count (λ i. leb (gpio_of k) (gpio_of i + 7))) one in
      leb-true (gpio_of k) (gpio_of j + 7) (each_at (λ i. leb (gpio_of k) (gpio_of i + 7)) count near j l)

  no_set : count ≡ 0 → qualifiers ≡ 0
  unfolding set_of
  no_set e = rw e

  module _ (c : ℕ) where
    abbrev laid : CsDataLayout
    laid = cs_data_layout_of d (handed a) (numbered d) c

    none-laid : count ≡ 0 → laid.qualifiers ≡ None
    none-laid e = rw (eq-eqb qualifiers 0 (no_set e))

    module _ (some : 0 < count) where
      first-held : In qualifiers (gpio_of 0)
      first-held = set-held count gpio_of 0 some

      low_held : In qualifiers (lowest qualifiers)
      low_held = lowest_has qualifiers (gpio_of 0) (qualifier_bits d a past) first-held

      high_held : In qualifiers (end qualifiers - 1)
      high_held = highest_has qualifiers (gpio_of 0) (qualifier_bits d a past) first-held

      span_few : width qualifiers ≤ 8
      span_few =
          let (j, l, p) = held_qualifier (lowest qualifiers) low_held in
          let (k, m, q) = held_qualifier (end qualifiers - 1) high_held in
          omega (arith, apart j k l m)

      not_none : qualifiers ≡ 0 → ⊥
      not_none e = omega (arith, rw (e, zero-div) at first-held)

      -- the numbers that are laid out
      abbrev pin : ℕ
      pin = lowest qualifiers - base_of (all_picked d a (choice d c))

      abbrev pattern : ℕ
      pattern = qualifiers / 2 ^ lowest qualifiers % 2 ^ 8

      from_is : qualifier_from laid pin ≡ lowest qualifiers
      from_is =
          let base = base-below (all_picked d a (choice d c)) (lowest qualifiers) (qualifier_all d a (choice d c) (lowest qualifiers) low_held) in
          omega (arith, base)

      end_is : qualifier_end laid pin (width qualifiers) ≡ end qualifiers
      end_is = omega (arith, from_is, not-empty qualifiers (gpio_of 0) (qualifier_bits d a past) first-held)

      -- bit k of the pattern
      pattern-bit : (k : ℕ) → k < 8 → bit pattern k ≡ bit qualifiers (lowest qualifiers + k)
      pattern-bit k l = bit-mod (qualifiers / 2 ^ lowest qualifiers) 8 k l ∙ ap (λ (x : ℕ). x % 2) (shr-shr qualifiers (lowest qualifiers) k)

      bit-few : (k : ℕ) → bit pattern k ≡ 1 → k < 8
      bit-few k e = held-most pattern k 8 e (omega arith)

      some-laid : SomeQualifiers d a laid
      some-laid = record {
        pin = pin;
        count = width qualifiers;
        pattern = pattern;
        present = rw (ne_eqb qualifiers 0 not_none);
        lowest = subst (IsQualifier d a) (sym from_is) (held_qualifier (lowest qualifiers) low_held);
        above = λ g q. omega (arith, from_is, held_low qualifiers g (qualifier_held g q));
        highest = subst (IsQualifier d a) (ap (λ (x : ℕ). x - 1) (sym end_is)) (held_qualifier (end qualifiers - 1) high_held);
        below = λ g q. omega (arith, end_is, held_high qualifiers g (qualifier_bits d a past) (qualifier_held g q));
        few = span_few;
        bit-one = λ k e.
            subst (IsQualifier d a) (ap (λ (x : ℕ). x + k) (sym from_is)) (held_qualifier (lowest qualifiers + k) (sym (pattern-bit k (bit-few k e)) ∙ e));
        one_bit = λ k q.
            let h = qualifier_held (lowest qualifiers + k) (subst (IsQualifier d a) (ap (λ (x : ℕ). x + k) from_is) q) in
            pattern-bit k (omega (arith, span_few, held_high qualifiers (lowest qualifiers + k) (qualifier_bits d a past) h)) ∙ h;
      }

    pub sound-qualifiers : SoundQualifiers d a laid
    sound-qualifiers = record { none = none-laid; some = some-laid }
